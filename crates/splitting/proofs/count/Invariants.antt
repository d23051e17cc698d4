-- The loop of `splitting::count`: the words so far, and those that are still to be found, are the line's.
-- Assumes nothing.
use Rattle.std.proofs.Common.{◌≡◌, length, ◌+◌, ◌≤◌}
use Rattle.splitting.specs.Words.{words_of}
use Rattle.splitting.proofs.Steps.{left}
use Rattle.splitting.proofs.count.Given as goal

abbrev pub invariant-loop-at : goal.invariant-loop-at
invariant-loop-at l = (l.start ≤ l.at) × (l.words ≤ l.start) × (l.words + length (left l.line l.start l.at) ≡ length (words_of l.line))
