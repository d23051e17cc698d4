-- Single outcome: two results that meet the contract at the same line are equal.
-- Assumes nothing.
use mathlib.Core.Path.{◌≡◌}
use contract.Lifetimes.{Lfts}
use denote.Triple.Clauses.{AtExit}
use borrow.Fn.Kinds.{Dens, ended_of}
use Rattle.base.proofs.Single.{same}
use Rattle.asking.specs.declared.Asked.{Asked}
use Rattle.asking.proofs.read_line.Kinds.{ps, r}
use Rattle.asking.proofs.read_line.Reads as read-line

-- a line that is only read is as it was, so the exit has nothing to fix
pub read_line_one : (κs : Lfts 1) (a : Dens κs ps) (e f : AtExit (ended_of 1 ps r) κs) (x y : Asked) → read-line.Post κs a x e → read-line.Post κs a y f → x ≡ y
read_line_one κs a e f x y m n = same m n
