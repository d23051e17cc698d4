-- What functions answer, by the names that the rules use: std's Option and Result over the types of this crate.
-- No rule stands here. Assumes nothing.
use Rattle.std.specs.Prelude.{Option}
use Rattle.volts.specs.declared.Sheet.{Sheet}

-- the sheet, once both readings are known
abbrev pub Sheeted : Type 0
Sheeted = Option Sheet
