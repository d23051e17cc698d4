-- Single outcome: two outcomes that meet the function's own contract at the same arguments are equal: the answer, and what the page then holds.
-- Stated of the contract that the checker makes of the source (`Reads.Post`), so that it cannot drift from it. Assumes nothing.
use mathlib.Core.Path.{◌≡◌}
use Prim.Native.Nat.{ℕ}
use contract.Lifetimes.{Lfts}
use denote.Triple.Clauses.{AtExit}
use borrow.Fn.Kinds.{Dens, ended_of}
use Rattle.base.proofs.Single.{same}
use Rattle.text.proofs.Single.{PageOne, page_one}
use Rattle.last_line.proofs.wide.Reads as wide
use Rattle.last_line.proofs.put_last_line.Kinds as put-last-line-kinds
use Rattle.last_line.proofs.put_last_line.Reads as put-last-line

-- a: the arguments; e and f: what two calls leave of them, of which the page and its place are free to change
pub put_last_line_one : (κs : Lfts 2) (a : Dens κs put-last-line-kinds.ps) (e f : AtExit (ended_of 2 put-last-line-kinds.ps put-last-line-kinds.r) κs)
    → put-last-line.Post κs a tt e → put-last-line.Post κs a tt f → PageOne e.1.0.now f.1.0.now
put_last_line_one κs a e f m n = page_one m n

pub wide_one : (x r q : ℕ) → wide.Post tt (x, tt) r (x, tt) → wide.Post tt (x, tt) q (x, tt) → r ≡ q
wide_one x r q m n = same m.0 n.0
