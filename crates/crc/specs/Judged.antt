-- The judgement of a received check: right exactly if it is the computed one.
-- Keeps 01 "Command words", "check wrong". Assumes nothing.
use Rattle.std.specs.Prelude.{ℕ, eqb}
use Rattle.base.specs.Pick.{pick}
use Rattle.crc.specs.declared.Judged.{Judged}
use Rattle.crc.specs.declared.Judged.TheVariants.{Right, Wrong}

abbrev pub judge_of : ℕ → ℕ → Judged
judge_of computed received = pick (eqb received computed) Right Wrong
