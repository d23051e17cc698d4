-- Single outcome: two results that meet a function's own contract at the same arguments are equal.
-- Assumes nothing.
use mathlib.Core.Path.{◌≡◌}
use Rattle.base.proofs.Single.{same}
use Rattle.rig.specs.declared.Rig.{Rig}
use Rattle.power.specs.declared.PanelSetting.{PanelSetting}
use Rattle.power.proofs.power_cut.Reads as power-cut
use Rattle.power.proofs.spin.Reads as spin
use Rattle.power.proofs.set.Reads as set

pub power_cut_one : (rig x y : Rig) → power-cut.Post tt (rig, tt) x (rig, tt) → power-cut.Post tt (rig, tt) y (rig, tt) → x ≡ y
power_cut_one rig x y m n = same m n

pub spin_one : (rig x y : Rig) → spin.Post tt (rig, tt) x (rig, tt) → spin.Post tt (rig, tt) y (rig, tt) → x ≡ y
spin_one rig x y m n = same m n

pub set_one : (rig : Rig) (s : PanelSetting) (x y : Rig) → set.Post tt (rig, (s, tt)) x (rig, (s, tt)) → set.Post tt (rig, (s, tt)) y (rig, (s, tt)) → x ≡ y
set_one rig s x y m n = same m n
