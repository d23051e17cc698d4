-- The loop of `samples::fill`: so many bytes are their own positions, the others as they were.
-- Assumes nothing.
use Rattle.std.proofs.Common.{◌≡◌}
use Rattle.samples.specs.Made.{positions}
use Rattle.samples.proofs.fill.Given as goal

abbrev pub invariant-loop-i : goal.invariant-loop-i
invariant-loop-i l = l.b ≡ positions l.i l.fn.b
