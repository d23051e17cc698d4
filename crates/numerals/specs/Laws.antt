-- What a caller relies on: what is written is read back, and how long it gets. The laws are proved in proofs/Laws.antt.
-- Assumes nothing.
use Rattle.std.specs.Prelude.{◌≡◌, List, ◌∷◌, map, ℕ, ◌^◌, ◌≤◌, ◌<◌, length, Some, Ok}
use Rattle.text.specs.Digits.{hex_word}
use Rattle.numerals.specs.Letters.{small}
use Rattle.numerals.specs.Decimal.{decimal, number_of, bound}
use Rattle.numerals.specs.Hex.{word_of}

pub record NumeralLaws : Type 0 where
  -- a number of 32 bits, written in decimal, is read as itself
  pub decimal_back : (n : ℕ) → n < bound → number_of (decimal n) ≡ Ok n
  -- a zero in front changes nothing
  pub zero_front : (b : ℕ) (text : List ℕ) → number_of (0x30 ∷ b ∷ text) ≡ number_of (b ∷ text)
  -- a word, written in hex, is read as itself; in small letters too
  pub word_back : (w : ℕ) → w < 65536 → word_of (hex_word w) ≡ Some w
  pub small_word_back : (w : ℕ) → w < 65536 → word_of (map small (hex_word w)) ≡ Some w
  -- a number in decimal has a digit at least, ten at most, and no more than its power of ten says
  pub some_digit : (n : ℕ) → 0 < length (decimal n)
  pub ten_digits : (n : ℕ) → length (decimal n) ≤ 10
  pub short : (k n : ℕ) → 1 ≤ k → n < 10 ^ k → length (decimal n) ≤ k
