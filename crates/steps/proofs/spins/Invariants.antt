-- The loop of `steps::spins`: the spins that are left make of the bench what all would.
-- Assumes nothing.
use Rattle.std.proofs.Common.{◌≡◌, ◌-◌}
use Rattle.steps.specs.Steps.{spun_times}
use Rattle.steps.proofs.spins.Given as goal

abbrev pub invariant-loop : goal.invariant-loop
invariant-loop g l = spun_times l.b (l.times - l.counter) ≡ spun_times l.fn.bench l.times
