-- What the machine makes of a byte is what 01 asks: a test that antt computes at each of the 256 bytes, for both scales.
-- Assumes nothing.
use mathlib.Core.Bool.{Bool, false}
use Prim.Native.Nat.{ℕ, ◌*◌, ◌^◌, ◌<◌, max}
use lib.Dec.{T, eqb, ltb, eqb→eq, ltb→lt}
use lib.IntN.{ℤ, pos, nat_abs, ◌-ℤ◌, ◌*ℤ◌}
use lib.Signed.{mag}
use lib.Ieee.{Float, fin, binary64, div, of_int, to_bits, fits}
use mir.Syntax.{w32}
use mir.Val.{to_z, of_z, SFits}
use Rattle.base.proofs.Table.{both, both_left, both_right, all_below, below}
use Rattle.volts.specs.Volts.{sign_bit, exponent, significand, sign_of, Makes, count_of}

-- the test that the float x makes z 256ths
abbrev sign_good : Float → ℤ → Bool
sign_good x z = eqb (sign_bit (to_bits binary64 x)) (sign_of z)

abbrev size_good : Float → ℤ → Bool
size_good x z = let b = to_bits binary64 x in eqb (significand b * 2 ^ max 1 (exponent b)) (nat_abs z * 2 ^ 1067)

abbrev pub made : Float → ℤ → Bool
made x z = both (fits binary64 x) (both (sign_good x z) (size_good x z))

pub makes : (x : Float) (z : ℤ) → T (made x z) → Makes x z
makes x z t =
    let s = both_right (fits binary64 x) _ t in
    record {
      held = both_left (fits binary64 x) _ t;
      bits = record { sign = eqb→eq _ _ (both_left (sign_good x z) _ s); size = eqb→eq _ _ (both_right (sign_good x z) _ s) };
    }

-- the machine's steps at the scale k: 128 - d, times k, as a float, over 256
abbrev pub diff : ℕ → ℤ
diff d = to_z w32 128 -ℤ to_z w32 d

abbrev pub times : ℕ → ℕ → ℤ
times k d = to_z w32 (of_z w32 (diff d)) *ℤ to_z w32 k

abbrev pub shown : ℕ → ℕ → Float
shown k d = div binary64 (of_int binary64 (to_z w32 (of_z w32 (times k d)))) (fin false 1 (pos 8))

-- the difference and the product fit, and the float makes (128 - d) × k
pub record Good (k d : ℕ) : Type 0 where
  pub sub : SFits w32 (diff d)
  pub mul : SFits w32 (times k d)
  pub exact : Makes (shown k d) (count_of k d)

abbrev sub_fits : ℕ → Bool
sub_fits d = ltb (mag (diff d)) (2 ^ 31)

abbrev mul_fits : ℕ → ℕ → Bool
mul_fits k d = ltb (mag (times k d)) (2 ^ 31)

abbrev test : ℕ → ℕ → Bool
test k d = both (sub_fits d) (both (mul_fits k d) (made (shown k d) (count_of k d)))

good : (k d : ℕ) → T (test k d) → Good k d
good k d t =
    let m = both_right (sub_fits d) _ t in
    record {
      sub = record { sfits = ltb→lt _ _ (both_left (sub_fits d) _ t) };
      mul = record { sfits = ltb→lt _ _ (both_left (mul_fits k d) _ m) };
      exact = makes (shown k d) (count_of k d) (both_right (mul_fits k d) _ m);
    }

-- both scales, at every byte
abbrev tests : ℕ → Bool
tests d = both (test 277 d) (test 10 d)

passes : T (all_below tests 256)
unfolding fits to_bits div of_int
passes = tt

pub bias_good : (d : ℕ) → d < 256 → Good 277 d
bias_good d h = good 277 d (both_left (test 277 d) (test 10 d) (below tests 256 passes d h))

pub ground_good : (d : ℕ) → d < 256 → Good 10 d
ground_good d h = good 10 d (both_right (test 277 d) (test 10 d) (below tests 256 passes d h))
