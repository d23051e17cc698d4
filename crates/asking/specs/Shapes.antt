-- What functions answer, by the names that the rules use: std's Option and Result over the types of this crate.
-- No rule stands here. Assumes nothing.
use Rattle.std.specs.Prelude.{ℕ, Result}
use Rattle.asking.specs.declared.BadSetting.{BadSetting}

-- a setting as it was typed
abbrev pub Setting : Type 0
Setting = Result ℕ BadSetting
