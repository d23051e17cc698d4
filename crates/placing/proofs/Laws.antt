-- What the proof of `place_of` stands on: the code's rows say what 01 and G's tables say.
-- Assumes nothing.
use Rattle.std.specs.Prelude.{Option, Some, None, Ok, Err}
use Rattle.base.proofs.Cases.{split}
use mathlib.Core.Path.{◌≡◌, refl, sym, ap, ◌∙◌}
use mathlib.Core.Bool.{Bool, true, false, ◌||◌}
use Prim.Native.Nat.{ℕ}
use Rattle.block.specs.declared.Refusal.TheVariants.{Beyond, Hidden}
use Rattle.block.specs.declared.Kind.{Kind}
use Rattle.block.specs.declared.Part.{Part}
use Rattle.block.specs.declared.Part.TheVariants.{Marker, Index, Descriptor1, Calibration, MSigns, Sgl0, DirectEvents, HSpct, ISpct, Sgl1, Sgl2, Sgl3, IPad, I3dd, Mtrx, Descriptor2, EPad, E3dd, M}
use Rattle.block.specs.Layout.{bit}
use Rattle.block.specs.Parts.{hidden, place_of}
use Rattle.block.specs.declared.Place.{Place}
use Rattle.block.specs.Tables.{has}
use Rattle.placing.specs.Steps.{group_of, hides, row_at, found_at}

-- a part's group is hidden exactly if one of 01's sentences hides the part
whole : (x : Bool) → x ≡ x || false || false
whole true = refl
whole false = refl

ions : (x y : Bool) → x || y ≡ x || y || false
ions true y = refl
ions false true = refl
ions false false = refl

electrons : (x y : Bool) → x || y ≡ x || false || y
electrons true y = refl
electrons false y = refl

module _ (d1 d2 : ℕ) where
  ion : hides (group_of Mtrx) d1 d2 ≡ hidden Mtrx d1 d2
  ion = ions (bit d1 2) (bit d1 0 || bit d1 3)

  electron : hides (group_of M) d1 d2 ≡ hidden M d1 d2
  electron = electrons (bit d1 2) (bit d1 1 || bit d2 7)

  pub hides_01 : (p : Part) → hides (group_of p) d1 d2 ≡ hidden p d1 d2
  hides_01 Marker = refl
  hides_01 Index = refl
  hides_01 Descriptor1 = refl
  hides_01 Calibration = ion
  hides_01 MSigns = ion
  hides_01 Sgl0 = ion
  hides_01 DirectEvents = ion
  hides_01 HSpct = ion
  hides_01 ISpct = ion
  hides_01 Sgl1 = ion
  hides_01 Sgl2 = ion
  hides_01 Sgl3 = ion
  hides_01 IPad = ion
  hides_01 I3dd = ion
  hides_01 Mtrx = ion
  hides_01 Descriptor2 = whole (bit d1 2)
  hides_01 EPad = electron
  hides_01 E3dd = electron
  hides_01 M = electron

-- so what the code answers of a part's row is what 01 and G's tables say
pub found_01 : (k : Kind) (d1 d2 : ℕ) (p : Part) (c : Option Place) → c ≡ row_at k p → found_at c (hides (group_of p) d1 d2) ≡ place_of k d1 d2 p
unfolding place_of
found_01 k d1 d2 p c e =
    ap (λ (q : Option Place). found_at q (hides (group_of p) d1 d2)) e
    ∙ split (has k p) (λ h. simp (h, hides_01 d1 d2 p)) (λ h. simp h)

-- the same in the three cases of the code
module _ (k : Kind) (d1 d2 : ℕ) (p : Part) where
  pub lacking : row_at k p ≡ None → place_of k d1 d2 p ≡ Err Beyond
  lacking e = sym (found_01 k d1 d2 p None (sym e))

  pub hiding : (x : Place) → row_at k p ≡ Some x → hides (group_of p) d1 d2 ≡ true → place_of k d1 d2 p ≡ Err Hidden
  hiding x e h = rw h at (sym (found_01 k d1 d2 p (Some x) (sym e)))

  pub found : (x : Place) → row_at k p ≡ Some x → hides (group_of p) d1 d2 ≡ false → place_of k d1 d2 p ≡ Ok x
  found x e h = rw h at (sym (found_01 k d1 d2 p (Some x) (sym e)))
