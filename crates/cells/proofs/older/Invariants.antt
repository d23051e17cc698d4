-- `cells::older`: the rows so far are a slot older, the others as they were.
-- Assumes nothing.
use Rattle.std.proofs.Common.{◌≡◌, length}
use Rattle.frame.specs.Items.{items}
use Rattle.cells.proofs.Cells.{Aged}
use Rattle.cells.proofs.older.Given as goal

abbrev pub invariant-loop-c : goal.invariant-loop-c
invariant-loop-c l = (length l.fn.old ≡ items) × Aged l.fn.old l.c-index l.c-items
