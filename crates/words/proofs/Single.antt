-- Single outcome: two results that meet a function's own contract at the same arguments are equal.
-- Assumes nothing.
use mathlib.Core.Path.{◌≡◌}
use Prim.Native.Nat.{ℕ}
use Rattle.base.proofs.Single.{same}
use Rattle.rig.specs.declared.Rig.{Rig}
use Rattle.rig.specs.declared.Taken.{Taken}
use Rattle.words.proofs.take.Reads as take

pub take_one : (rig : Rig) (word : ℕ) (x y : Taken) → take.Post tt (rig, (word, tt)) x (rig, (word, tt)) → take.Post tt (rig, (word, tt)) y (rig, (word, tt)) → x ≡ y
take_one rig word x y m n = same m n
