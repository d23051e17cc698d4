-- What functions answer, by the names that the rules use: std's Option and Result over the types of this crate.
-- No rule stands here. Assumes nothing.
use Rattle.std.specs.Prelude.{ℕ, Result}
use Rattle.block.specs.declared.Refusal.{Refusal}
use Rattle.event.specs.declared.Event.{Event}
use Rattle.event.specs.declared.MatrixItem.{MatrixItem}

-- the event that was asked for, or why it is refused
abbrev pub Evented : Type 0
Evented = Result Event Refusal

-- the matrix item that was asked for, or why it is refused
abbrev pub Itemed : Type 0
Itemed = Result MatrixItem Refusal

-- where what was asked for begins, or why it is refused
abbrev pub Entry : Type 0
Entry = Result ℕ Refusal
