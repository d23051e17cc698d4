-- Single outcome: two results that meet the contract at the same words are equal.
-- Assumes nothing.
use mathlib.Core.Path.{◌≡◌}
use contract.Lifetimes.{Lfts}
use denote.Triple.Clauses.{AtExit}
use borrow.Fn.Kinds.{Dens, ended_of}
use Rattle.base.proofs.Single.{same}
use Rattle.wording.specs.Shapes.{Meant}
use Rattle.word_reader.proofs.read.Kinds.{ps, r}
use Rattle.word_reader.proofs.read.Reads as read

-- a slice that is only read is as it was, so the exit has nothing to fix
pub read_one : (κs : Lfts 1) (ws : Dens κs ps) (e f : AtExit (ended_of 1 ps r) κs) (x y : Meant) → read.Post κs ws x e → read.Post κs ws y f → x ≡ y
read_one κs ws e f x y m n = same m n
