-- Single outcome: two results that meet a function's own contract at the same arguments are equal, and so is what a lent buffer then holds.
-- Stated of the contract that the checker makes of the source (`Reads.Post`). Assumes nothing.
use mathlib.Core.Path.{◌≡◌}
use contract.Lifetimes.{Lfts}
use denote.Triple.Clauses.{AtExit}
use borrow.Fn.Kinds.{Dens, ended_of}
use Rattle.base.proofs.Single.{same}
use Rattle.frame.specs.Shapes.{Wrote}
use Rattle.writing.proofs.write_at.Kinds as write-at-kinds
use Rattle.writing.proofs.write_at.Reads as write-at

module _ (κs : Lfts 1) where
  -- e and f are what the arguments are at the exit; the buffer is the fourth
  pub write_at_one : (a : Dens κs write-at-kinds.ps) (e f : AtExit (ended_of 1 write-at-kinds.ps write-at-kinds.r) κs) (r q : Wrote)
      → write-at.Post κs a r e → write-at.Post κs a q f → (r ≡ q) × (e.1.1.1.0.now ≡ f.1.1.1.0.now)
  write_at_one a e f r q m n = (same m.0 n.0, same m.1 n.1)
