-- Single outcome: two results that meet the function's own contract at the same arguments are equal, and so is what a lent buffer then holds.
-- Stated of the contract that the checker makes of the source (`Reads.Post`). Assumes nothing.
use mathlib.Core.Path.{◌≡◌}
use contract.Lifetimes.{Lfts}
use denote.Triple.Clauses.{AtExit}
use borrow.Fn.Kinds.{Dens, ended_of}
use Rattle.base.proofs.Single.{same}
use Rattle.slots.specs.declared.Passed.{Passed}
use Rattle.losing.proofs.lost.Kinds as lost-kinds
use Rattle.losing.proofs.lost.Reads as lost

-- a: the bench, the buffer and the place; e and f: what the call leaves of them, of which the buffer's content is free to change
pub lost_one : (κs : Lfts 1) (a : Dens κs lost-kinds.ps) (e f : AtExit (ended_of 1 lost-kinds.ps lost-kinds.r) κs) (r q : Passed)
    → lost.Post κs a r e → lost.Post κs a q f → (r ≡ q) × (e.1.0.now ≡ f.1.0.now)
lost_one κs a e f r q m n = (same m.0 n.0, same m.1 n.1)
