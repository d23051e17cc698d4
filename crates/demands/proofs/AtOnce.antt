-- Demand 3 holds of our rig and desk over runs in which every frame becomes a slot as it is built.
-- Assumes nothing.
use mathlib.Core.Path.{sym, subst}
use Rattle.frame.specs.Items.{row_of}
use Rattle.frame.proofs.Rows.{row_lt}
use Rattle.demands.specs.History.{Told}
use Rattle.demands.specs.Outfit.{proved}
use Rattle.demands.specs.AtOnce.{AtOnceFor, after_turns}
use Rattle.demands.proofs.Shown.{told}
use Rattle.demands.proofs.Invariant.{desk_shows}
use Rattle.demands.proofs.Window.{thirty_five}

pub at_once : AtOnceFor proved
at_once =
    record {
      shown = λ es item.
          subst (Told (row_of item) (after_turns proved es).past) (sym (desk_shows es (row_of item) (row_lt item)))
          (told (row_of item) (row_lt item) (after_turns proved es).past);
      round = λ es item. thirty_five es (row_of item) (row_lt item);
    }
