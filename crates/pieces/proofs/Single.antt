-- Single outcome: two outcomes that meet the function's own contract at the same arguments are equal: the answer, and what the page then holds.
-- Stated of the contract that the checker makes of the source (`Reads.Post`), so that it cannot drift from it. Assumes nothing.
use mathlib.Core.Path.{◌≡◌}
use contract.Lifetimes.{Lfts}
use denote.Triple.Clauses.{AtExit}
use borrow.Fn.Kinds.{Dens, ended_of}
use Rattle.base.proofs.Single.{same}
use Rattle.listing.specs.declared.Listed.{Listed}
use Rattle.pieces.proofs.list.Kinds as list-kinds
use Rattle.pieces.proofs.list.Reads as list-reads
use Rattle.pieces.proofs.least.Reads as least
use Prim.Native.Nat.{ℕ}

-- a: the arguments; e and f: what two calls leave of them, of which the page's content is free to change
pub list_one : (κs : Lfts 2) (a : Dens κs list-kinds.ps) (e f : AtExit (ended_of 2 list-kinds.ps list-kinds.r) κs) (x y : Listed)
    → list-reads.Post κs a x e → list-reads.Post κs a y f → (x ≡ y) × (e.1.1.1.0.now ≡ f.1.1.1.0.now)
list_one κs a e f x y m n = (same m.0 n.0, same m.1 n.1)

pub least_one : (a b r q : ℕ) → least.Post tt (a, (b, tt)) r (a, (b, tt)) → least.Post tt (a, (b, tt)) q (a, (b, tt)) → r ≡ q
least_one a b r q m n = same m n
