-- Case i of 01's bench and the zero, of every sheet that meets the contract; and G's formulas against 01's.
-- Assumes nothing.
use mathlib.Core.Path.{◌≡◌, refl, ap}
use mathlib.Core.Bool.{Bool, true, false}
use Prim.Native.Nat.{ℕ, suc, ◌*◌, ◌<◌}
use lib.Dec.{T, eqb, eqb→eq}
use lib.IntN.{ℤ, pos, negsuc, nat_abs, ◌-ℤ◌, ◌*ℤ◌}
use lib.Ieee.{Float, fin, to_bits, fits}
use native.Mathlib.Omega.{arith}
use Rattle.base.proofs.Table.{both, both_left, both_right, all_below, below}
use Rattle.volts.specs.declared.Sheet.{Sheet}
use Rattle.volts.specs.Volts.{sign_of, bias_of, ground_of, Makes, Shows}
use Rattle.volts.proofs.Exact.{made, makes}
use Rattle.volts.proofs.OneFloat.{makes_one}

-- a float that makes z is the one that is tested to
known : (x y : Float) (z : ℤ) → T (made y z) → Makes x z → x ≡ y
known x y z t m = makes_one x y z m (makes y z t)

-- bias 00h: 35456/256, which is 138.5 = 277 × 2 ^ -1. (`fin s m e` is m × 2 ^ e, negative where s is true.)
pub bias_00 : bias_of 0x00 ≡ pos 35456
bias_00 = refl

pub volts_00 : (g : ℕ) (s : Sheet) → Shows 0x00 g s → s.bias ≡ fin false 277 (negsuc 0)
unfolding fits to_bits
volts_00 g s m = known s.bias (fin false 277 (negsuc 0)) (bias_of 0x00) tt m.bias

-- bias FFh: -35179/256
pub bias_ff : bias_of 0xFF ≡ negsuc 35178
bias_ff = refl

pub volts_ff : (g : ℕ) (s : Sheet) → Shows 0xFF g s → s.bias ≡ fin true 35179 (negsuc 7)
unfolding fits to_bits
volts_ff g s m = known s.bias (fin true 35179 (negsuc 7)) (bias_of 0xFF) tt m.bias

-- d = 128: +0, of both
pub zero_128 : (s : Sheet) → Shows 128 128 s → (s.bias ≡ fin false 0 (pos 0)) × (s.ground ≡ fin false 0 (pos 0))
unfolding fits to_bits
zero_128 s m =
    (known s.bias (fin false 0 (pos 0)) (bias_of 128) tt m.bias, known s.ground (fin false 0 (pos 0)) (ground_of 128) tt m.ground)

-- G's formulas: 2.5 - d × 5/256 is (640 - 5d)/256, and 55.4 is 554/10
abbrev pub unscaled : ℕ → ℤ
unscaled d = pos 640 -ℤ pos (5 * d)

abbrev sameℤ : ℤ → ℤ → Bool
sameℤ a b = both (eqb (sign_of a) (sign_of b)) (eqb (nat_abs a) (nat_abs b))

same_ℤ : (a b : ℤ) → T (sameℤ a b) → a ≡ b
same_ℤ (pos m) (pos n) t = ap pos (eqb→eq m n t)
same_ℤ (pos m) (negsuc n) t = absurd t
same_ℤ (negsuc m) (pos n) t = absurd t
same_ℤ (negsuc m) (negsuc n) t = let e : suc m ≡ suc n = eqb→eq (suc m) (suc n) t in ap negsuc (omega arith)

abbrev formulas : ℕ → Bool
formulas d = both (sameℤ (unscaled d *ℤ pos 554) (bias_of d *ℤ pos 10)) (sameℤ (unscaled d *ℤ pos 2) (ground_of d))

agree : T (all_below formulas 256)
agree = tt

pub g_bias : (d : ℕ) → d < 256 → unscaled d *ℤ pos 554 ≡ bias_of d *ℤ pos 10
g_bias d h = same_ℤ _ _ (both_left (sameℤ (unscaled d *ℤ pos 554) (bias_of d *ℤ pos 10)) _ (below formulas 256 agree d h))

pub g_ground : (d : ℕ) → d < 256 → unscaled d *ℤ pos 2 ≡ ground_of d
g_ground d h = same_ℤ _ _ (both_right (sameℤ (unscaled d *ℤ pos 554) (bias_of d *ℤ pos 10)) _ (below formulas 256 agree d h))
