-- Single outcome: two outcomes that meet the contract at the same arguments leave the page the same.
-- Assumes nothing.
use contract.Lifetimes.{Lfts}
use denote.Triple.Clauses.{AtExit}
use borrow.Fn.Kinds.{Dens, ended_of}
use Rattle.text.proofs.Single.{PageOne, page_one}
use Rattle.plain_words.proofs.put_plain.Kinds.{ps, r}
use Rattle.plain_words.proofs.put_plain.Reads as put-plain

-- a: the arguments; e and f: what two calls leave of them, of which the page is free to change
pub put_plain_one : (κs : Lfts 2) (a : Dens κs ps) (e f : AtExit (ended_of 2 ps r) κs) → put-plain.Post κs a tt e → put-plain.Post κs a tt f → PageOne e.1.0.now f.1.0.now
put_plain_one κs a e f m n = page_one m.0 n.0
