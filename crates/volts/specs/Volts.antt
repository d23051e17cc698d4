-- The sheet: bias is (128 - d) × 277/256 volts, ground (128 - d) × 10/256, and each float shown is exactly that, +0 at d = 128.
-- Keeps 01 "Volts": said over whole numbers, as the count of 256ths that the sign, exponent and significand in the float's bits make.
-- Assumes nothing.
use Rattle.std.specs.Prelude.{◌≡◌, ℕ, zero, suc, ◌+◌, ◌*◌, ◌/◌, ◌%◌, ◌^◌, max, ℤ, pos, negsuc, nat_abs, ◌-ℤ◌, ◌*ℤ◌, T, Float}
use Rattle.std.specs.Float.{binary64}
use Rattle.std.specs.Float.Ieee.{to_bits, fits}
use Rattle.volts.specs.declared.Sheet.{Sheet}

-- The 64 bits b of a float: the sign (1), the exponent (11), the rest (52).
abbrev pub sign_bit : ℕ → ℕ
sign_bit b = b / 2 ^ 63

abbrev pub exponent : ℕ → ℕ
exponent b = b / 2 ^ 52 % 2048

abbrev pub rest : ℕ → ℕ
rest b = b % 2 ^ 52

-- The significand is the rest, with a leading 1 before it where the exponent isn't 0.
abbrev pub lead : ℕ → ℕ
lead zero = 0
lead (suc e) = 2 ^ 52

abbrev pub significand : ℕ → ℕ
significand b = lead (exponent b) + rest b

abbrev pub sign_of : ℤ → ℕ
sign_of (pos n) = 0
sign_of (negsuc n) = 1

-- The bits b make z 256ths. Their size is significand × 2 ^ (e - 1075), with e the exponent, or 1 where that is 0:
-- in 256ths, significand × 2 ^ (e - 1067).
pub record Bits256 (b : ℕ) (z : ℤ) : Type 0 where
  pub sign : sign_bit b ≡ sign_of z
  pub size : significand b * 2 ^ max 1 (exponent b) ≡ nat_abs z * 2 ^ 1067

-- The float x is one of 64 bits, and they make z 256ths.
pub record Makes (x : Float) (z : ℤ) : Type 0 where
  pub held : T (fits binary64 x)
  pub bits : Bits256 (to_bits binary64 x) z

-- (128 - d) × k
abbrev pub count_of : ℕ → ℕ → ℤ
count_of k d = (pos 128 -ℤ pos d) *ℤ pos k

abbrev pub bias_of : ℕ → ℤ
bias_of d = count_of 277 d

abbrev pub ground_of : ℕ → ℤ
ground_of d = count_of 10 d

-- the sheet of the two raw bytes
pub record Shows (b g : ℕ) (s : Sheet) : Type 0 where
  pub bias : Makes s.bias (bias_of b)
  pub ground : Makes s.ground (ground_of g)
