-- Each record with one part replaced is so, part by part.
-- Assumes nothing.
use mathlib.Core.Path.{refl}
use Rattle.laws.specs.Parts.{Parts}

pub parts : Parts
parts =
    record {
      stop = λ a x. (refl, refl, refl, refl);
      start = λ a x. (refl, refl, refl, refl);
      deflection = λ a x. (refl, refl, refl, refl);
      settings = λ a x. (refl, refl, refl, refl);
      parallel = λ a x. (refl, refl, refl, refl);
      mask = λ a x. (refl, refl, refl, refl);
      iel = λ a x. (refl, refl, refl, refl);
      sensor = λ a x. (refl, refl, refl, refl);
      mux = λ a x. (refl, refl, refl);
      direction = λ a x. (refl, refl, refl);
      energy = λ a x. (refl, refl, refl);
      core = λ a x. (refl, refl, refl, refl, refl, refl, refl, refl);
      register = λ a x. (refl, refl, refl, refl, refl, refl, refl, refl);
      faults = λ a x. (refl, refl, refl, refl, refl, refl, refl, refl);
      pending = λ a x. (refl, refl, refl, refl, refl, refl, refl, refl);
      check = λ a x. (refl, refl, refl, refl, refl, refl, refl, refl);
      panel = λ a x. (refl, refl, refl, refl, refl, refl, refl, refl);
      sending = λ a x. (refl, refl, refl, refl, refl, refl, refl, refl);
      edbs = λ a x. (refl, refl, refl, refl, refl, refl, refl, refl);
      bias = λ a x. (refl, refl, refl, refl, refl, refl);
      ground = λ a x. (refl, refl, refl, refl, refl, refl);
      free = λ a x. (refl, refl, refl, refl, refl, refl);
      flap1 = λ a x. (refl, refl, refl, refl, refl, refl);
      flap2 = λ a x. (refl, refl, refl, refl, refl, refl);
      flap3 = λ a x. (refl, refl, refl, refl, refl, refl);
    }
