-- Single outcome: two results that meet a function's own contract at the same arguments are equal.
-- Assumes nothing.
use Rattle.std.proofs.Common.{◌≡◌, ℕ}
use Rattle.base.proofs.Single.{same}
use Rattle.judge.specs.Shapes.{Verdict}
use Rattle.std.specs.Prelude.{Option}
use Rattle.rig.specs.declared.Kind.{Kind}
use Rattle.rig.specs.declared.Pending.{Pending}
use Rattle.rig.specs.declared.Rig.{Rig}
use Rattle.rig.specs.declared.Taken.{Taken}
use Rattle.afresh.proofs.fresh.Reads as fresh
use Rattle.afresh.proofs.nothing_pending.Reads as nothing-pending
use Rattle.afresh.proofs.refuse.Reads as refuse
use Rattle.afresh.proofs.settle.Reads as settle

pub nothing_pending_one : (x y : Option Pending) → nothing-pending.Post tt tt x tt → nothing-pending.Post tt tt y tt → x ≡ y
nothing_pending_one x y m n = same m n

pub refuse_one : (rig : Rig) (high number : ℕ) (x y : Rig)
    → refuse.Post tt (rig, (high, (number, tt))) x (rig, (high, (number, tt))) → refuse.Post tt (rig, (high, (number, tt))) y (rig, (high, (number, tt))) → x ≡ y
refuse_one rig high number x y m n = same m n

pub settle_one : (rig : Rig) (high : ℕ) (v : Verdict) (x y : Taken)
    → settle.Post tt (rig, (high, (v, tt))) x (rig, (high, (v, tt))) → settle.Post tt (rig, (high, (v, tt))) y (rig, (high, (v, tt))) → x ≡ y
settle_one rig high v x y m n = same m n

pub fresh_one : (rig : Rig) (kind : Kind) (high low : ℕ) (x y : Taken)
    → fresh.Post tt (rig, (kind, (high, (low, tt)))) x (rig, (kind, (high, (low, tt)))) → fresh.Post tt (rig, (kind, (high, (low, tt)))) y (rig, (kind, (high, (low, tt)))) → x ≡ y
fresh_one rig kind high low x y m n = same m n
