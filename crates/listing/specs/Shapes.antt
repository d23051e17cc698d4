-- What functions answer, by the names that the rules use: std's Option and Result over the types of this crate.
-- No rule stands here. Assumes nothing.
use Rattle.std.specs.Prelude.{ℕ, Option}

-- the high byte of a word whose low byte has not come, if there is one
abbrev pub Lone : Type 0
Lone = Option ℕ
