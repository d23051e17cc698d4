-- Single outcome: two outcomes that meet a function's own contract at the same arguments are equal: the answer, and what the page then holds.
-- Stated of the contract that the checker makes of the source (`Reads.Post`), so that it cannot drift from it. Assumes nothing.
use mathlib.Core.Path.{◌≡◌}
use contract.Lifetimes.{Lfts}
use denote.Triple.Clauses.{AtExit}
use borrow.Fn.Kinds.{Dens, ended_of}
use Rattle.base.proofs.Single.{same}
use Rattle.text.proofs.Single.{PageOne, page_one}
use Rattle.numerals.specs.Shapes.{Number, Word}
use Rattle.numerals.proofs.put_decimal.Kinds as put-decimal-kinds
use Rattle.numerals.proofs.put_decimal.Reads as put-decimal
use Rattle.numerals.proofs.read_number.Kinds as read-number-kinds
use Rattle.numerals.proofs.read_number.Reads as read_number
use Rattle.numerals.proofs.read_word.Kinds as read-word-kinds
use Rattle.numerals.proofs.read_word.Reads as read_word

-- a: the arguments; e and f: what two calls leave of them, of which the page's content is free to change
pub put_decimal_one : (κs : Lfts 2) (a : Dens κs put-decimal-kinds.ps) (e f : AtExit (ended_of 2 put-decimal-kinds.ps put-decimal-kinds.r) κs)
    → put-decimal.Post κs a tt e → put-decimal.Post κs a tt f → PageOne e.1.0.now f.1.0.now
put_decimal_one κs a e f m n = page_one m n

-- a text that is only read is as it was, so the exit has nothing to fix
pub read_number_one : (κs : Lfts 1) (a : Dens κs read-number-kinds.ps) (e f : AtExit (ended_of 1 read-number-kinds.ps read-number-kinds.r) κs) (x y : Number)
    → read_number.Post κs a x e → read_number.Post κs a y f → x ≡ y
read_number_one κs a e f x y m n = same m n

pub read_word_one : (κs : Lfts 1) (a : Dens κs read-word-kinds.ps) (e f : AtExit (ended_of 1 read-word-kinds.ps read-word-kinds.r) κs) (x y : Word)
    → read_word.Post κs a x e → read_word.Post κs a y f → x ≡ y
read_word_one κs a e f x y m n = same m n
