-- Single outcome: two results that meet a function's own contract at the same arguments are equal.
-- Stated of the contract that the checker makes of the source (`Reads.Post`), so that it cannot drift from it. Assumes nothing.
use mathlib.Core.Path.{◌≡◌}
use Prim.Native.Nat.{ℕ}
use Rattle.base.proofs.Single.{same}
use Rattle.supply.specs.declared.Supply.{Supply}
use Rattle.supply.specs.Shapes.{Change}
use Rattle.targeting.proofs.set_target.Reads as set-target
use Rattle.targeting.proofs.set_limit.Reads as set-limit
use Rattle.targeting.proofs.set_stepping.Reads as set-stepping

pub set_target_one : (s : Supply) (low : ℕ) (r q : Change) → set-target.Post tt (s, (low, tt)) r (s, (low, tt)) → set-target.Post tt (s, (low, tt)) q (s, (low, tt)) → r ≡ q
set_target_one s low r q m n = same m n

pub set_limit_one : (s : Supply) (low : ℕ) (r q : Change) → set-limit.Post tt (s, (low, tt)) r (s, (low, tt)) → set-limit.Post tt (s, (low, tt)) q (s, (low, tt)) → r ≡ q
set_limit_one s low r q m n = same m n

pub set_stepping_one : (s : Supply) (low : ℕ) (r q : Change) → set-stepping.Post tt (s, (low, tt)) r (s, (low, tt)) → set-stepping.Post tt (s, (low, tt)) q (s, (low, tt)) → r ≡ q
set_stepping_one s low r q m n = same m n
