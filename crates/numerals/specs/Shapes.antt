-- What functions answer, by the names that the rules use: std's Option and Result over the types of this crate.
-- No rule stands here. Assumes nothing.
use Rattle.std.specs.Prelude.{ℕ, Option, Result}
use Rattle.numerals.specs.declared.BadNumber.{BadNumber}

-- what a text spells
abbrev pub Number : Type 0
Number = Result ℕ BadNumber

-- what four hex digits spell, if they are four
abbrev pub Word : Type 0
Word = Option ℕ
