-- Single outcome: two results that meet a function's own contract at the same arguments are equal.
-- Assumes nothing.
use mathlib.Core.Path.{◌≡◌}
use Prim.Native.Nat.{ℕ}
use Rattle.base.proofs.Single.{same}
use Rattle.judge.specs.declared.Core.{Core}
use Rattle.judge.specs.Shapes.{Verdict}
use Rattle.single_words.proofs.single.Reads as single

pub single_one : (c : Core) (code low : ℕ) (v w : Verdict)
    → single.Post tt (c, (code, (low, tt))) v (c, (code, (low, tt))) → single.Post tt (c, (code, (low, tt))) w (c, (code, (low, tt))) → v ≡ w
single_one c code low v w p q = same p q
