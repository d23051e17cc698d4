-- Single outcome: two results that meet a function's own contract at the same arguments are equal.
-- Assumes nothing.
use mathlib.Core.Path.{◌≡◌}
use Rattle.base.proofs.Single.{same}
use Rattle.rig.specs.declared.Reply.{Reply}
use Rattle.rig.specs.declared.Numbers.{Numbers}
use Rattle.numbers.proofs.numbers_of.Reads as Numbers-of

pub numbers_of_one : (reply : Reply) (x y : Numbers) → Numbers-of.Post tt (reply, tt) x (reply, tt) → Numbers-of.Post tt (reply, tt) y (reply, tt) → x ≡ y
numbers_of_one reply x y m n = same m n
