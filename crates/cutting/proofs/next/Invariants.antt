-- The loop of `cutting::next`: going on from the place of the loop ends as going on from where the call began.
-- Assumes nothing.
use Rattle.std.proofs.Common.{◌≡◌, drop}
use Rattle.cutting.specs.Cut.{cut}
use Rattle.cutting.proofs.next.Given as goal

abbrev pub invariant-loop-place : goal.invariant-loop-place
invariant-loop-place l = cut l.got l.line l.place (drop l.place l.piece) ≡ cut l.fn.held.0 l.fn.line l.fn.at (drop l.fn.at l.fn.piece)
