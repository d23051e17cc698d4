-- Single outcome: two results that meet a function's own contract at the same arguments are equal.
-- Stated of the contract that the checker makes of the source (`Reads.Post`). Assumes nothing.
use mathlib.Core.Path.{◌≡◌}
use Prim.Native.Nat.{ℕ}
use Rattle.base.proofs.Single.{same}
use Rattle.block.specs.declared.Refusal.{Refusal}
use Rattle.block.specs.declared.Kind.{Kind}
use Rattle.block.proofs.number.Reads as number
use Rattle.block.proofs.length_of.Reads as length-of
use Rattle.block.proofs.marker_of.Reads as marker-of

pub number_one : (f : Refusal) (r q : ℕ) → number.Post tt (f, tt) r (f, tt) → number.Post tt (f, tt) q (f, tt) → r ≡ q
number_one f r q m n = same m n

pub length_of_one : (k : Kind) (r q : ℕ) → length-of.Post tt (k, tt) r (k, tt) → length-of.Post tt (k, tt) q (k, tt) → r ≡ q
length_of_one k r q m n = same m n

pub marker_of_one : (k : Kind) (r q : ℕ) → marker-of.Post tt (k, tt) r (k, tt) → marker-of.Post tt (k, tt) q (k, tt) → r ≡ q
marker_of_one k r q m n = same m n
