-- Single outcome: two results that meet the function's own contract at the same arguments are equal.
-- Stated of the contract that the checker makes of the source (`Reads.Post`). A slice that is only read has nothing to fix. Assumes nothing.
use mathlib.Core.Path.{◌≡◌}
use contract.Lifetimes.{Lfts}
use denote.Triple.Clauses.{AtExit}
use borrow.Fn.Kinds.{Dens, ended_of}
use Rattle.base.proofs.Single.{same}
use Rattle.frame.specs.Shapes.{Came}
use Rattle.arriving.proofs.arrival.Kinds as arrival-kinds
use Rattle.arriving.proofs.arrival.Reads as arrival

pub arrival_one : (κs : Lfts 1) (a : Dens κs arrival-kinds.ps) (e f : AtExit (ended_of 1 arrival-kinds.ps arrival-kinds.r) κs) (r q : Came)
    → arrival.Post κs a r e → arrival.Post κs a q f → r ≡ q
arrival_one κs a e f r q m n = same m n
