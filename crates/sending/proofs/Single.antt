-- Single outcome: two results that meet the contract of `build` at the same arguments are equal, and so are the two contents of the buffer.
-- Assumes nothing.
use mathlib.Core.Path.{◌≡◌}
use contract.Lifetimes.{Lfts}
use denote.Triple.Clauses.{AtExit}
use borrow.Fn.Kinds.{Dens, ended_of}
use Rattle.base.proofs.Single.{same}
use Rattle.sending.specs.declared.Built.{Built}
use Rattle.sending.proofs.build.Kinds.{ps, r}
use Rattle.sending.proofs.build.Reads as build

-- a: the rig, the buffer and the place; e and f: what the call leaves of them, of which the buffer's content is free to change
pub build_one : (κs : Lfts 1) (a : Dens κs ps) (e f : AtExit (ended_of 1 ps r) κs) (x y : Built)
    → build.Post κs a x e → build.Post κs a y f → (x ≡ y) × (e.1.0.now ≡ f.1.0.now)
build_one κs a e f x y m n = (same m.0 n.0, same m.1 n.1)
