-- What functions answer, by the names that the rules use: std's Option and Result over the types of this crate.
-- No rule stands here. Assumes nothing.
use Rattle.std.specs.Prelude.{ℕ, Option, Some}
use Rattle.base.specs.declared.Frames.{Frames}
use Rattle.cell.specs.declared.Known.{Known}

-- what is shown of an item: unknown, or a value with its age
abbrev pub Shown : Type 0
Shown = Option Known

-- a value with its age, shown
abbrev pub known : ℕ → Frames → Shown
known v a = Some (record { value = v; age = a })
