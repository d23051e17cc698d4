-- What a reply says in the paper's numbers: the refusals that it gives, in their order (01, "Command words").
-- Assumes nothing.
use Rattle.std.specs.Prelude.{ℕ, ◌≡◌, List, [], ◌∷◌, ◌++◌, Option, Some, None, slice_get}
use Rattle.judge.specs.Refusals.{number_of}
use Rattle.rig.specs.declared.Answer.{Answer}
use Rattle.rig.specs.declared.Answer.TheVariants.{Accepted, Waiting, Refused}
use Rattle.rig.specs.declared.Reply.{Reply}
use Rattle.rig.specs.declared.Reply.TheVariants.{Plain, Swallowed, Dropped}
use Rattle.rig.specs.declared.Numbers.{Numbers}
use Rattle.rig.specs.Words.{drop_number}

abbrev pub answer_refusals : Answer → List ℕ
answer_refusals Accepted = []
answer_refusals Waiting = []
answer_refusals (Refused why) = number_of why ∷ []

-- a dropped block is 03h, and the word judged afresh may be refused as well
abbrev pub refusals_of : Reply → List ℕ
refusals_of (Plain a) = answer_refusals a
refusals_of Swallowed = drop_number ∷ []
refusals_of (Dropped a) = drop_number ∷ answer_refusals a

-- a list of numbers, two at most: the first and the second, where there are so many
abbrev pub numbers_in : List ℕ → Numbers
numbers_in ns = record { first = slice_get ns 0; second = slice_get ns 1 }

-- the numbers that are told, in their order
abbrev pub one_told : Option ℕ → List ℕ
one_told None = []
one_told (Some n) = n ∷ []

abbrev pub told : Numbers → List ℕ
told n = one_told n.first ++ one_told n.second

-- two are enough: the numbers that are told are all that the reply gives
abbrev pub AllTold : Type 0
AllTold = (reply : Reply) → told (numbers_in (refusals_of reply)) ≡ refusals_of reply
