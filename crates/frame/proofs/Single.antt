-- Single outcome: two results that meet a function's own contract at the same arguments are equal.
-- Stated of the contract that the checker makes of the source (`Reads.Post`). Assumes nothing.
use mathlib.Core.Path.{◌≡◌}
use Prim.Native.Nat.{ℕ}
use Rattle.base.proofs.Single.{same}
use Rattle.frame.specs.declared.Item.{Item}
use Rattle.frame.specs.declared.Refusal.{Refusal}
use Rattle.frame.proofs.number.Reads as number
use Rattle.frame.proofs.row_of.Reads as row_of

pub number_one : (f : Refusal) (r q : ℕ) → number.Post tt (f, tt) r (f, tt) → number.Post tt (f, tt) q (f, tt) → r ≡ q
number_one f r q m n = same m n

pub row_of_one : (x : Item) (r q : ℕ) → row_of.Post tt (x, tt) r (x, tt) → row_of.Post tt (x, tt) q (x, tt) → r ≡ q
row_of_one x r q m n = same m n
