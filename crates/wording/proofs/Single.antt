-- Single outcome: two results that meet a function's own contract at the same arguments are equal.
-- Assumes nothing.
use mathlib.Core.Path.{◌≡◌}
use mathlib.Core.List.{List}
use Prim.Native.Nat.{ℕ}
use Rattle.base.proofs.Single.{same}
use Rattle.wording.specs.declared.Refusal.{Refusal}
use Rattle.wording.proofs.block.Reads as block
use Rattle.wording.proofs.number.Reads as number

pub number_one : (r : Refusal) (n m : ℕ) → number.Post tt (r, tt) n (r, tt) → number.Post tt (r, tt) m (r, tt) → n ≡ m
number_one r n m p q = same p q

pub block_one : (code a b : ℕ) (x y : List ℕ)
    → block.Post tt (code, (a, (b, tt))) x (code, (a, (b, tt))) → block.Post tt (code, (a, (b, tt))) y (code, (a, (b, tt))) → x ≡ y
block_one code a b x y m n = same m n
