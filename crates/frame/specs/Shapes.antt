-- What functions answer, by the names that the rules use: std's Option and Result over the types of this crate.
-- No rule stands here. Assumes nothing.
use Rattle.std.specs.Prelude.{ℕ, Option, Result, Ok}
use Rattle.frame.specs.declared.Refusal.{Refusal}
use Rattle.frame.specs.declared.Turn.{Turn}
use Rattle.frame.specs.declared.Arrived.{Arrived}
use Rattle.frame.specs.declared.Arrived.TheVariants.{Whole}

-- whether a frame was written, or why not
abbrev pub Wrote : Type 0
Wrote = Result (Unit {0}) Refusal

-- what a frame tells of an item, if it does
abbrev pub Reading : Type 0
Reading = Option ℕ

-- what arrived in a slot, or why it is refused
abbrev pub Came : Type 0
Came = Result Arrived Refusal

-- a frame's index and its byte 39
abbrev pub turn : ℕ → ℕ → Turn
turn i b = record { index = i; byte39 = b }

-- a whole frame, of index i with byte 39 b
abbrev pub whole : ℕ → ℕ → Came
whole i b = Ok (Whole (turn i b))
