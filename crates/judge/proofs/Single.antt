-- Single outcome: two results that meet a function's own contract at the same arguments are equal.
-- Assumes nothing.
use mathlib.Core.Path.{◌≡◌}
use Prim.Native.Nat.{ℕ}
use Rattle.base.proofs.Single.{same}
use Rattle.supply.specs.declared.Supply.{Supply}
use Rattle.judge.specs.declared.Refusal.{Refusal}
use Rattle.judge.specs.declared.Which.{Which}
use Rattle.judge.specs.declared.Core.{Core}
use Rattle.judge.proofs.number.Reads as number
use Rattle.judge.proofs.supply_at.Reads as supply_at
use Rattle.judge.proofs.with_supply.Reads as with_supply

pub number_one : (r : Refusal) (n m : ℕ) → number.Post tt (r, tt) n (r, tt) → number.Post tt (r, tt) m (r, tt) → n ≡ m
number_one r n m p q = same p q

pub supply_at_one : (c : Core) (x : Which) (s t : Supply)
    → supply_at.Post tt (c, (x, tt)) s (c, (x, tt)) → supply_at.Post tt (c, (x, tt)) t (c, (x, tt)) → s ≡ t
supply_at_one c x s t p q = same p q

pub with_supply_one : (c : Core) (x : Which) (s : Supply) (d e : Core)
    → with_supply.Post tt (c, (x, (s, tt))) d (c, (x, (s, tt))) → with_supply.Post tt (c, (x, (s, tt))) e (c, (x, (s, tt))) → d ≡ e
with_supply_one c x s d e p q = same p q
