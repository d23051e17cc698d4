-- Letters and their digits: the letter of a digit in capitals and in small letters, and what std makes of a letter.
-- Assumes nothing.
use mathlib.Core.Path.{◌≡◌}
use mathlib.Core.Bool.{Bool}
use Prim.Native.Nat.{ℕ, ◌<◌, min}
use Rattle.std.specs.Char.{digit_value}
use lib.Dec.{T, eqb, eqb→eq}
use Rattle.base.proofs.Table.{both, both_left, both_right, all_below, below}
use Rattle.text.specs.Digits.{digit}
use Rattle.numerals.specs.Letters.{digit_of, small}

-- a digit's letter stands for the digit, and so does the small one: tried for each of the sixteen
right : ℕ → Bool
right d = both (eqb (digit_of (digit d)) d) (eqb (digit_of (small (digit d))) d)

passes : T (all_below right 16)
unfolding right digit_of digit
passes = tt

module _ (d : ℕ) (h : d < 16) where
  pub letter_digit : digit_of (digit d) ≡ d
  unfolding right
  letter_digit = eqb→eq (digit_of (digit d)) d (both_left (eqb (digit_of (digit d)) d) (eqb (digit_of (small (digit d))) d) (below right 16 passes d h))

  pub small_digit : digit_of (small (digit d)) ≡ d
  unfolding right
  small_digit = eqb→eq (digit_of (small (digit d))) d (both_right (eqb (digit_of (digit d)) d) (eqb (digit_of (small (digit d))) d) (below right 16 passes d h))

-- a byte's digit is what std's `to_digit` makes of it, where that is below sixteen: tried for each byte
as_std : ℕ → Bool
as_std b = eqb (digit_of b) (min (digit_value b) 16)

all_as_std : T (all_below as_std 256)
unfolding as_std digit_of
all_as_std = tt

pub digit_is_value : (b c : ℕ) → c ≡ b → c < 256 → digit_of b ≡ min (digit_value c) 16
unfolding as_std
digit_is_value c b e h = rw (← e) (eqb→eq (digit_of b) (min (digit_value b) 16) (below as_std 256 all_as_std b h))
