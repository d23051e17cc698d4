-- Single outcome: two results that meet a function's own contract at the same arguments are equal.
-- Assumes nothing.
use mathlib.Core.Path.{◌≡◌}
use Prim.Native.Nat.{ℕ}
use Rattle.base.proofs.Single.{same}
use Rattle.judge.specs.declared.Core.{Core}
use Rattle.judge.specs.Shapes.{Verdict}
use Rattle.block_words.proofs.block.Reads as block

pub block_one : (c : Core) (code n x y : ℕ) (v w : Verdict)
    → block.Post tt (c, (code, (n, (x, (y, tt))))) v (c, (code, (n, (x, (y, tt))))) → block.Post tt (c, (code, (n, (x, (y, tt))))) w (c, (code, (n, (x, (y, tt))))) → v ≡ w
block_one c code n x y v w p q = same p q
