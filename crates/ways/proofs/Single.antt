-- Single outcome: two results that meet a function's own contract at the same arguments are equal.
-- Assumes nothing.
use mathlib.Core.Path.{◌≡◌}
use Prim.Native.Nat.{ℕ}
use Rattle.base.proofs.Single.{same}
use Rattle.rig.specs.declared.Kind.{Kind}
use Rattle.std.specs.Prelude.{Option}
use Rattle.rig.specs.declared.Pending.{Pending}
use Rattle.rig.specs.declared.Way.{Way}
use Rattle.ways.proofs.way_of.Reads as Way-of

pub way_of_one : (p : Option Pending) (k : Kind) (high : ℕ) (x y : Way)
    → Way-of.Post tt (p, (k, (high, tt))) x (p, (k, (high, tt))) → Way-of.Post tt (p, (k, (high, tt))) y (p, (k, (high, tt))) → x ≡ y
way_of_one p k high x y m n = same m n
