-- Single outcome: two results that meet a function's own contract at the same arguments are equal.
-- Assumes nothing.
use mathlib.Core.Path.{◌≡◌}
use Rattle.base.proofs.Single.{same}
use Rattle.rig.specs.declared.Rig.{Rig}
use Rattle.rig.proofs.start.Reads as start

pub start_one : (x y : Rig) → start.Post tt tt x tt → start.Post tt tt y tt → x ≡ y
start_one x y m n = same m n
