-- Single outcome: two outcomes that meet a function's own contract at the same arguments are equal: the answer, and what the buffer then holds.
-- Stated of the contract that the checker makes of the source (`Reads.Post`), so that it cannot drift from it. Assumes nothing.
use mathlib.Core.Path.{◌≡◌}
use contract.Lifetimes.{Lfts}
use denote.Triple.Clauses.{AtExit}
use borrow.Fn.Kinds.{Dens, ended_of}
use Rattle.base.proofs.Single.{same}
use Rattle.cutting.specs.declared.Held.{Held}
use Rattle.cutting.specs.declared.Said.{Said}
use Rattle.cutting.specs.declared.Step.{Step}
use Rattle.cutting.proofs.begin.Reads as begin
use Rattle.cutting.proofs.next.Kinds as next-kinds
use Rattle.cutting.proofs.next.Reads as next
use Rattle.cutting.proofs.finish.Kinds as finish-kinds
use Rattle.cutting.proofs.finish.Reads as finish

pub begin_one : (r q : Held) → begin.Post tt tt r tt → begin.Post tt tt q tt → r ≡ q
begin_one r q m n = same m n

-- a: the arguments; e and f: what two calls leave of them, of which the buffer's content is free to change
pub next_one : (κs : Lfts 2) (a : Dens κs next-kinds.ps) (e f : AtExit (ended_of 2 next-kinds.ps next-kinds.r) κs) (x y : Step)
    → next.Post κs a x e → next.Post κs a y f → (x ≡ y) × (e.1.1.1.0.now ≡ f.1.1.1.0.now)
next_one κs a e f x y m n = (same m.0 n.0, same m.1 n.1)

-- a buffer that is only read is as it was, so the exit has nothing to fix
pub finish_one : (κs : Lfts 1) (a : Dens κs finish-kinds.ps) (e f : AtExit (ended_of 1 finish-kinds.ps finish-kinds.r) κs) (x y : Said)
    → finish.Post κs a x e → finish.Post κs a y f → x ≡ y
finish_one κs a e f x y m n = same m n
