-- The refusals: their numbers, and which of several is given (01, "What the numbers mean" and its order).
-- Assumes nothing.
use Rattle.std.specs.Prelude.{Bool, List, [], ◌∷◌, ℕ}
use Rattle.base.specs.Pick.{pick}
use Rattle.block.specs.declared.Refusal.{Refusal}
use Rattle.block.specs.declared.Refusal.TheVariants.{NoMarker, WrongLength, InnerMarker, Beyond, Hidden, NotIfft}

abbrev pub number_of : Refusal → ℕ
number_of NoMarker = 19
number_of WrongLength = 20
number_of InnerMarker = 21
number_of Beyond = 22
number_of Hidden = 23
number_of NotIfft = 24

-- tests with what each refuses with, in their order
abbrev pub Tests : Type 0
Tests = List (Bool × Refusal)

-- the answer, unless a test holds: then the refusal of the first that does
abbrev pub unless : {A : Type 0} → (Refusal → A) → Tests → A → A
unless refused [] answer = answer
unless refused (t ∷ ts) answer = pick t.0 (refused t.1) (unless refused ts answer)

-- the number of that refusal, and 0 where there is none
abbrev pub first_of : Tests → ℕ
first_of ts = unless number_of ts 0
