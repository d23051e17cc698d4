-- What functions answer, by the names that the rules use: std's Option and Result over the types of this crate.
-- No rule stands here. Assumes nothing.
use Rattle.std.specs.Prelude.{Option}
use Rattle.block.specs.declared.Part.{Part}

-- the part of a number, or none past the last
abbrev pub Listed : Type 0
Listed = Option Part
