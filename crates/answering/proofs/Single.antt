-- Single outcome: two outcomes that meet a function's own contract at the same arguments are equal: the answer, and what the page then holds.
-- Assumes nothing.
use mathlib.Core.Path.{◌≡◌}
use Prim.Native.Nat.{ℕ}
use contract.Lifetimes.{Lfts}
use denote.Triple.Clauses.{AtExit}
use borrow.Fn.Kinds.{Dens, ended_of}
use Rattle.base.proofs.Single.{same}
use Rattle.answering.proofs.put_answer.Kinds as put-answer-kinds
use Rattle.answering.proofs.put_answer.Reads as put-answer
use Rattle.answering.proofs.put_reply.Kinds as put-reply-kinds
use Rattle.answering.proofs.put_reply.Reads as put-reply

-- a: the arguments; e and f: what two calls leave of them, of which the page's content is free to change
pub put_answer_one : (κs : Lfts 1) (a : Dens κs put-answer-kinds.ps) (e f : AtExit (ended_of 1 put-answer-kinds.ps put-answer-kinds.r) κs) (x y : ℕ)
    → put-answer.Post κs a x e → put-answer.Post κs a y f → (x ≡ y) × (e.1.0.now ≡ f.1.0.now)
put_answer_one κs a e f x y m n = (same m.0.place n.0.place, same m.0.content n.0.content)

pub put_reply_one : (κs : Lfts 2) (a : Dens κs put-reply-kinds.ps) (e f : AtExit (ended_of 2 put-reply-kinds.ps put-reply-kinds.r) κs) (x y : ℕ)
    → put-reply.Post κs a x e → put-reply.Post κs a y f → (x ≡ y) × (e.1.1.0.now ≡ f.1.1.0.now)
put_reply_one κs a e f x y m n = (same m.0.place n.0.place, same m.0.content n.0.content)
