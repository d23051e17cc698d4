-- Single outcome: two results that meet the function's own contract at the same arguments are equal.
-- Stated of the contract that the checker makes of the source (`Reads.Post`). Assumes nothing.
use mathlib.Core.Path.{◌≡◌}
use mathlib.Core.List.{List}
use Prim.Native.Nat.{ℕ}
use Rattle.base.proofs.Single.{same}
use Rattle.frame.specs.declared.Held.{Held}
use Rattle.composing.proofs.frame_bytes.Reads as frame-bytes

pub frame_bytes_one : (h : Held) (i l : ℕ) (r q : List ℕ)
    → frame-bytes.Post tt (h, (i, (l, tt))) r (h, (i, (l, tt))) → frame-bytes.Post tt (h, (i, (l, tt))) q (h, (i, (l, tt))) → r ≡ q
frame_bytes_one h i l r q m n = same m n
