-- The numbers of the refusals (02 (i)).
-- Assumes nothing.
use Rattle.std.specs.Prelude.{ℕ}
use Rattle.wording.specs.declared.Refusal.{Refusal}
use Rattle.wording.specs.declared.Refusal.TheVariants.{TooWide, NoRoom, NotOne}

abbrev pub number_of : Refusal → ℕ
number_of TooWide = 25  -- a setting too wide
number_of NoRoom = 26  -- too few words of room
number_of NotOne = 38  -- words that are not one command of 01 with its right length and check
