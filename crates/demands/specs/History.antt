-- What a desk should show of an item, said of the history of slots alone. Histories have the newest slot first.
-- Keeps 01 "The 40-byte frame", its paragraph on the desk. Assumes nothing.
use Rattle.std.specs.Prelude.{◌≡◌, List, ◌∷◌, ℕ, suc, ◌+◌, ◌%◌, ◌<◌, min, drop, None}
use Rattle.base.specs.Counts.{frames, ceiling}
use Rattle.frame.specs.Items.{held_at}
use Rattle.frame.specs.Read.{period_of, phase_of, born_of}
use Rattle.cell.specs.Shapes.{Shown, known}
use Rattle.rig.specs.declared.Rig.{Rig}
use Rattle.sending.specs.Sending.{held_of}

-- a slot: missed, or whole, with the rig as it was when that frame was built
pub data Slot : Type 0 where
  missed : Slot
  whole : Rig → Slot

-- what the rig held of the item in row k
abbrev pub held : Rig → ℕ → ℕ
held r k = held_at (held_of r) k

-- `Unbroken n f l h`: the newest n + 1 slots of h came whole, with frame indices that rise by one; f and l are the rig as it was when the first
-- and the last of these frames were built
pub data Unbroken : ℕ → Rig → Rig → List Slot → Type 0 where
  one : {r : Rig} {h : List Slot} → Unbroken 0 r r (whole r ∷ h)
  more : {n : ℕ} {f p r : Rig} {h : List Slot} → Unbroken n f p h → r.sending.next ≡ p.sending.next + 1 → Unbroken (suc n) f r (whole r ∷ h)

-- the newest slot, with those before it that the item is spread over, brings the value v of the item in row k: the one held when the first was built
pub record Brings (k v : ℕ) (h : List Slot) : Type 0 where
  pub first : Rig
  pub last : Rig
  pub came : Unbroken (born_of k) first last h
  pub due : last.sending.next % period_of k ≡ phase_of k
  pub value : v ≡ held first k

-- `Told k h s`: after the slots h, s is what should be shown of the item in row k. Unknown, if no run of slots has brought it; else what the latest
-- that brought it brought, which ended j slots ago, aged by the slots since its first frame, up to 65,535.
pub data Told (k : ℕ) (h : List Slot) : Shown → Type 0 where
  not_yet : ((j v : ℕ) → Brings k v (drop j h) → ⊥) → Told k h None
  latest : (j v : ℕ) → Brings k v (drop j h) → ((i u : ℕ) → i < j → Brings k u (drop i h) → ⊥)
      → Told k h (known v (frames (min ceiling (j + born_of k))))
