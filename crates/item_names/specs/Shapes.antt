-- What functions answer, by the names that the rules use: std's Option and Result over the types of this crate.
-- No rule stands here. Assumes nothing.
use Rattle.std.specs.Prelude.{Option}
use Rattle.frame.specs.declared.Item.{Item}

-- the item of a row, or none past the last
abbrev pub InRow : Type 0
InRow = Option Item
