-- Single outcome: two outcomes that meet the function's own contract at the same arguments are equal: the answer, and what the page then holds.
-- Stated of the contract that the checker makes of the source (`Reads.Post`), so that it cannot drift from it. Assumes nothing.
use contract.Lifetimes.{Lfts}
use denote.Triple.Clauses.{AtExit}
use borrow.Fn.Kinds.{Dens, ended_of}
use Rattle.text.proofs.Single.{PageOne, page_one}
use Rattle.lines.proofs.put_lines.Kinds as put-lines-kinds
use Rattle.lines.proofs.put_lines.Reads as put-lines

-- a: the arguments; e and f: what two calls leave of them, of which the page and its place are free to change
pub put_lines_one : (κs : Lfts 2) (a : Dens κs put-lines-kinds.ps) (e f : AtExit (ended_of 2 put-lines-kinds.ps put-lines-kinds.r) κs)
    → put-lines.Post κs a tt e → put-lines.Post κs a tt f → PageOne e.1.1.0.now f.1.1.0.now
put_lines_one κs a e f m n = page_one m.0 n.0
