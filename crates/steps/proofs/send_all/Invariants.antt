-- The loop of `steps::send_all`: the words that are left make of the bench what all would.
-- Assumes nothing.
use Rattle.std.proofs.Common.{◌≡◌, drop}
use Rattle.steps.specs.Steps.{sent_all}
use Rattle.steps.proofs.send_all.Given as goal

abbrev pub invariant-loop-word : goal.invariant-loop-word
invariant-loop-word g l = sent_all l.b (drop l.word-index l.words) ≡ sent_all l.fn.bench l.words
