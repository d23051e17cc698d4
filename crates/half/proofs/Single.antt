-- Single outcome: two results that meet a function's own contract at the same arguments are equal.
-- Stated of the contract that the checker makes of the source (`Reads.Post`). Assumes nothing.
use mathlib.Core.Path.{◌≡◌}
use Prim.Native.Nat.{ℕ}
use Rattle.base.proofs.Single.{same}
use Rattle.base.specs.declared.Frames.{Frames}
use Rattle.frame.specs.declared.Turn.{Turn}
use Rattle.cell.specs.Shapes.{Shown}
use Rattle.half.specs.Shapes.{Half}
use Rattle.half.proofs.half_after.Reads as half-after
use Rattle.half.proofs.spread.Reads as spread

pub half_after_one : (h : Half) (t : Turn) (r q : Half)
    → half-after.Post tt (h, (t, tt)) r (h, (t, tt)) → half-after.Post tt (h, (t, tt)) q (h, (t, tt)) → r ≡ q
half_after_one h t r q m n = same m n

pub spread_one : (h : Half) (t : Turn) (l : ℕ) (a : Frames) (r q : Shown)
    → spread.Post tt (h, (t, (l, (a, tt)))) r (h, (t, (l, (a, tt)))) → spread.Post tt (h, (t, (l, (a, tt)))) q (h, (t, (l, (a, tt)))) → r ≡ q
spread_one h t l a r q m n = same m n
