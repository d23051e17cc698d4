-- Single outcome: two results that meet the function's own contract at the same arguments are equal.
-- Stated of the contract that the checker makes of the source (`Reads.Post`), so that it cannot drift from it. Assumes nothing.
use mathlib.Core.Path.{◌≡◌}
use mathlib.Core.Bool.{Bool}
use contract.Lifetimes.{Lfts}
use denote.Triple.Clauses.{AtExit}
use borrow.Fn.Kinds.{Dens, ended_of}
use Rattle.base.proofs.Single.{same}
use Rattle.spelling.proofs.spells.Kinds.{ps, r}
use Rattle.spelling.proofs.spells.Reads as spells

-- the two texts are only read, so the exit has nothing to fix
pub spells_one : (κs : Lfts 2) (a : Dens κs ps) (e f : AtExit (ended_of 2 ps r) κs) (x y : Bool) → spells.Post κs a x e → spells.Post κs a y f → x ≡ y
spells_one κs a e f x y m n = same m n
