-- What functions answer, by the names that the rules use: std's Option and Result over the types of this crate.
-- No rule stands here. Assumes nothing.
use Rattle.std.specs.Prelude.{ℕ, Result}
use Rattle.wording.specs.declared.Command.{Command}
use Rattle.wording.specs.declared.Refusal.{Refusal}

-- how many words were written, or why none
abbrev pub Wrote : Type 0
Wrote = Result ℕ Refusal

-- what words mean, or why they mean nothing
abbrev pub Meant : Type 0
Meant = Result Command Refusal
