-- Single outcome: two outcomes that meet the contract at the same arguments are equal: the answer, and what the buffer then holds.
-- Assumes nothing.
use mathlib.Core.Path.{◌≡◌}
use contract.Lifetimes.{Lfts}
use denote.Triple.Clauses.{AtExit}
use borrow.Fn.Kinds.{Dens, ended_of}
use Rattle.base.proofs.Single.{same}
use Rattle.wording.specs.Shapes.{Wrote}
use Rattle.word_writer.proofs.write.Kinds.{ps, r}
use Rattle.word_writer.proofs.write.Reads as write

-- a: the arguments; e and f: what two calls leave of them, of which the buffer's content is free to change
pub write_one : (κs : Lfts 1) (a : Dens κs ps) (e f : AtExit (ended_of 1 ps r) κs) (x y : Wrote)
    → write.Post κs a x e → write.Post κs a y f → (x ≡ y) × (e.1.0.now ≡ f.1.0.now)
write_one κs a e f x y m n = (same m.0 n.0, same m.1 n.1)
