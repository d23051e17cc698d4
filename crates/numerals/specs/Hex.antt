-- A word out of hex: exactly four digits, either case.
-- Assumes nothing.
use Rattle.std.specs.Prelude.{ℕ, List, eqb, length, Some, None, Ok, Err}
use Rattle.base.specs.Pick.{pick}
use Rattle.numerals.specs.Decimal.{number_in}
use Rattle.numerals.specs.Shapes.{Number}
use Rattle.numerals.specs.Shapes.{Word}
use Rattle.numerals.specs.declared.BadNumber.TheVariants.{NotANumber, TooLarge}

abbrev pub as_word : Number → Word
as_word (Ok n) = Some n
as_word (Err NotANumber) = None
as_word (Err TooLarge) = None

-- The word that a text spells.
abbrev pub word_of : List ℕ → Word
word_of text = pick (eqb (length text) 4) (as_word (number_in 16 text)) None
