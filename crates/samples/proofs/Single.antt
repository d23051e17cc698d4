-- Single outcome: two results that meet a function's own contract at the same arguments are equal.
-- Stated of the contract that the checker makes of the source (`Reads.Post`). Assumes nothing.
use mathlib.Core.Path.{◌≡◌}
use mathlib.Core.List.{List}
use Prim.Native.Nat.{ℕ}
use Rattle.base.proofs.Single.{same}
use Rattle.block.specs.declared.Kind.{Kind}
use Rattle.samples.proofs.made.Reads as made

pub made_one : (k : Kind) (d1 d2 : ℕ) (r q : List ℕ) → made.Post tt (k, (d1, (d2, tt))) r (k, (d1, (d2, tt)))
    → made.Post tt (k, (d1, (d2, tt))) q (k, (d1, (d2, tt))) → r ≡ q
made_one k d1 d2 r q m n = same m n
