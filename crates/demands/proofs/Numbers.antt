-- The numbers are the paper's: computed.
-- Assumes nothing.
use mathlib.Core.Path.{refl}
use Rattle.demands.specs.Numbers.{Numbers}

pub all_numbers : Numbers
all_numbers = (refl, (refl, (refl, (refl, (refl, (refl, (refl, (refl, (refl, (refl, (refl, (refl, (refl, (refl, (refl, (refl, (refl, (refl, (refl, (refl, (refl, (refl, (refl, (refl, (refl, (refl, (refl, (refl, tt))))))))))))))))))))))))))))
