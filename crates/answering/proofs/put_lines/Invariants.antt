-- The loop of `answering::put_lines`: the lines of the words so far are put.
-- Assumes nothing.
use Rattle.std.proofs.Common.{take}
use Rattle.text.specs.Page.{Gets}
use Rattle.answering.specs.Answers.{hex_lines}
use Rattle.answering.proofs.put_lines.Given as goal

abbrev pub invariant-loop-word : goal.invariant-loop-word
invariant-loop-word l = Gets (hex_lines (take l.word-index l.words)) l.initial.page l.page
