-- Single outcome: two outcomes that meet a function's own contract at the same arguments are equal: the answer, and what the page then holds.
-- Stated of the contract that the checker makes of the source (`Reads.Post`), so that it cannot drift from it. Assumes nothing.
use mathlib.Core.Path.{◌≡◌}
use Prim.Native.Nat.{ℕ}
use contract.Lifetimes.{Lfts}
use denote.Triple.Clauses.{AtExit}
use borrow.Fn.Kinds.{Dens, ended_of}
use Rattle.base.proofs.Single.{same}
use Rattle.listing.specs.declared.Listed.{Listed}
use Rattle.listing.proofs.open.Kinds as open-kinds
use Rattle.listing.proofs.open.Reads as open-reads
use Rattle.listing.proofs.finish.Kinds as finish-kinds
use Rattle.listing.proofs.finish.Reads as finish-reads

-- a: the arguments; e and f: what two calls leave of them, of which the page's content is free to change
pub open_one : (κs : Lfts 1) (a : Dens κs open-kinds.ps) (e f : AtExit (ended_of 1 open-kinds.ps open-kinds.r) κs) (x y : Listed)
    → open-reads.Post κs a x e → open-reads.Post κs a y f → (x ≡ y) × (e.0.now ≡ f.0.now)
open_one κs a e f x y m n = (same m.0 n.0, same m.1 n.1)

pub finish_one : (κs : Lfts 1) (a : Dens κs finish-kinds.ps) (e f : AtExit (ended_of 1 finish-kinds.ps finish-kinds.r) κs) (x y : ℕ)
    → finish-reads.Post κs a x e → finish-reads.Post κs a y f → (x ≡ y) × (e.1.0.now ≡ f.1.0.now)
finish_one κs a e f x y m n = (same m.0 n.0, same m.1 n.1)
