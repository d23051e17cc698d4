-- Numbers in decimal, out and in.
-- Assumes nothing.
use Rattle.std.specs.Prelude.{ℕ, zero, suc, ◌+◌, ◌*◌, ◌/◌, ◌%◌, List, [], ◌∷◌, ◌++◌, ltb, eqb, Ok, Err}
use Rattle.base.specs.Pick.{pick}
use Rattle.text.specs.Digits.{digit}
use Rattle.numerals.specs.Letters.{digit_of}
use Rattle.numerals.specs.Shapes.{Number}
use Rattle.numerals.specs.declared.BadNumber.TheVariants.{NotANumber, TooLarge}

-- The digits of n in front of its last: none where n is 0. Up to k of them.
abbrev pub front : ℕ → ℕ → List ℕ
front zero n = []
front (suc k) n = pick (eqb n 0) [] (front k (n / 10) ++ (digit (n % 10) ∷ []))

-- A number of 32 bits in decimal: no zeros in front; 0 is `0`.
unfoldable pub decimal : ℕ → List ℕ
decimal n = front 9 (n / 10) ++ (digit (n % 10) ∷ [])

-- one more than the largest number that is read
abbrev pub bound : ℕ
bound = 4294967296

-- Reading on in a base (10, 16), v being the number that the digits before spell.
abbrev pub reading : ℕ → ℕ → List ℕ → Number
reading base v [] = pick (ltb v bound) (Ok v) (Err TooLarge)
reading base v (b ∷ text) = pick (ltb (digit_of b) base) (reading base (v * base + digit_of b) text) (Err NotANumber)

-- The number that a text spells in a base: digits alone, one at least. Zeros in front are taken, however many.
abbrev pub number_in : ℕ → List ℕ → Number
number_in base [] = (Err NotANumber)
number_in base (b ∷ text) = reading base 0 (b ∷ text)

-- The number that a text spells in decimal.
abbrev pub number_of : List ℕ → Number
number_of text = number_in 10 text
