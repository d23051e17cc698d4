-- What functions answer, by the names that the rules use: std's Option and Result over the types of this crate.
-- No rule stands here. Assumes nothing.
use Rattle.std.specs.Prelude.{Result}
use Rattle.desk.specs.declared.Answer.{Answer}
use Rattle.frame.specs.declared.Refusal.{Refusal}

-- what became of a frame's slot: what the desk made of it, or why there was no frame and no slot
abbrev pub Outcome : Type 0
Outcome = Result Answer Refusal
