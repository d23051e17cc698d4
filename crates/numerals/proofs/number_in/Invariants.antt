-- `numerals::number_in`: reading on from the number so far, at the place of the loop, gives what reading from the front gives.
-- Assumes nothing.
use Rattle.std.proofs.Common.{◌≡◌, ◌≤◌, drop}
use Rattle.numerals.specs.Decimal.{reading, bound}
use Rattle.numerals.proofs.number_in.Given as goal

abbrev pub invariant-loop-b : goal.invariant-loop-b
invariant-loop-b l = (l.n ≤ bound) × (reading l.base l.n (drop l.b-index l.text) ≡ reading l.base 0 l.text)
