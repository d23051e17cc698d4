-- The loop of `splitting::word`: of the words that are still to be found the one asked for is the line's.
-- Assumes nothing.
use Rattle.std.proofs.Common.{◌≡◌, [], get_or, ◌≤◌}
use Rattle.splitting.specs.Words.{words_of}
use Rattle.splitting.proofs.Steps.{left}
use Rattle.splitting.proofs.word.Given as goal

abbrev pub invariant-loop-at : goal.invariant-loop-at
invariant-loop-at l = (l.start ≤ l.at) × (get_or (left l.line l.start l.at) l.before [] ≡ get_or (words_of l.line) l.k [])
