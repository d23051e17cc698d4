-- The test of a limit above 15 is never met: four bits are at most 15.
-- Assumes nothing.
use Prim.Native.Nat.{ℕ, ◌%◌}
use mathlib.Core.Path.{◌≡◌}
use native.Mathlib.Omega.{arith}
use borrow.Author.Tests.{le-ltb}
use Rattle.supply.specs.Rules.{limited}
use Rattle.supply.specs.Tested.{limit_untested}
use Rattle.supply.specs.declared.Supply.{Supply}

pub untested : (s : Supply) (low : ℕ) → limited s low ≡ limit_untested s low
unfolding limited limit_untested
untested s low = simp (le-ltb 15 (low % 16) (omega arith))
