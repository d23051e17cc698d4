-- Single outcome: two results that meet the function's own contract at the same arguments are equal.
-- Stated of the contract that the checker makes of the source (`Reads.Post`). A slice that is only read has nothing to fix. Assumes nothing.
use mathlib.Core.Path.{◌≡◌}
use mathlib.Core.List.{List}
use contract.Lifetimes.{Lfts}
use denote.Triple.Clauses.{AtExit}
use borrow.Fn.Kinds.{Dens, ended_of}
use Rattle.base.proofs.Single.{same}
use Rattle.cell.specs.declared.Cell.{Cell}
use Rattle.bringing.proofs.cells_after.Kinds as cells-after-kinds
use Rattle.bringing.proofs.cells_after.Reads as cells-after

pub cells_after_one : (κs : Lfts 1) (a : Dens κs cells-after-kinds.ps) (e f : AtExit (ended_of 1 cells-after-kinds.ps cells-after-kinds.r) κs) (r q : List Cell)
    → cells-after.Post κs a r e → cells-after.Post κs a q f → r ≡ q
cells_after_one κs a e f r q m n = same m n
