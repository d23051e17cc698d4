-- Single outcome: two results that meet the function's own contract at the same arguments are equal.
-- Stated of the contract that the checker makes of the source (`Reads.Post`). Assumes nothing.
use mathlib.Core.Path.{◌≡◌}
use Prim.Native.Nat.{ℕ}
use Rattle.base.proofs.Single.{same}
use Rattle.frame.specs.declared.Held.{Held}
use Rattle.latching.proofs.latched.Reads as latched

pub latched_one : (h : Held) (i l r q : ℕ) → latched.Post tt (h, (i, (l, tt))) r (h, (i, (l, tt))) → latched.Post tt (h, (i, (l, tt))) q (h, (i, (l, tt))) → r ≡ q
latched_one h i l r q m n = same m n
