-- What functions answer, by the names that the rules use: std's Option and Result over the types of this crate.
-- No rule stands here. Assumes nothing.
use Rattle.std.specs.Prelude.{Result}
use Rattle.judge.specs.declared.Core.{Core}
use Rattle.judge.specs.declared.Refusal.{Refusal}

-- what a word or a closed block makes of the core, or why it is refused
abbrev pub Verdict : Type 0
Verdict = Result Core Refusal
