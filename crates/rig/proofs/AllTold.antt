-- The numbers of a reply are all that it gives (specs/Replies): by its cases.
-- Assumes nothing.
use mathlib.Core.Path.{refl}
use Rattle.rig.specs.declared.Answer.TheVariants.{Accepted, Waiting, Refused}
use Rattle.rig.specs.declared.Reply.TheVariants.{Plain, Swallowed, Dropped}
use Rattle.rig.specs.Replies.{AllTold}

pub all_told : AllTold
all_told (Plain Accepted) = refl
all_told (Plain Waiting) = refl
all_told (Plain (Refused why)) = refl
all_told Swallowed = refl
all_told (Dropped Accepted) = refl
all_told (Dropped Waiting) = refl
all_told (Dropped (Refused why)) = refl
