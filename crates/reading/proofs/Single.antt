-- Single outcome: two results that meet a function's own contract at the same arguments are equal.
-- Stated of the contract that the checker makes of the source (`Reads.Post`). A slice that is only read has nothing to fix. Assumes nothing.
use mathlib.Core.Path.{◌≡◌}
use contract.Lifetimes.{Lfts}
use denote.Triple.Clauses.{AtExit}
use borrow.Fn.Kinds.{Dens, ended_of}
use Rattle.base.proofs.Single.{same}
use Rattle.frame.specs.Shapes.{Reading}
use Rattle.reading.proofs.read.Kinds as read-kinds
use Rattle.reading.proofs.read.Reads as read

module _ (κs : Lfts 1) where
  pub read_one : (a : Dens κs read-kinds.ps) (e f : AtExit (ended_of 1 read-kinds.ps read-kinds.r) κs) (r q : Reading)
      → read.Post κs a r e → read.Post κs a q f → r ≡ q
  read_one a e f r q m n = same m n
