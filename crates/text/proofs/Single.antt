-- Single outcome: two outcomes that meet a function's own contract at the same arguments are equal: the answer, and what the page then holds.
-- Stated of the contract that the checker makes of the source (`Reads.Post`), so that it cannot drift from it. Assumes nothing.
use mathlib.Core.Path.{◌≡◌}
use mathlib.Core.List.{List}
use Prim.Native.Nat.{ℕ}
use contract.Lifetimes.{Lfts}
use denote.Triple.Clauses.{AtExit}
use borrow.Fn.Kinds.{Dens, ended_of}
use Rattle.base.proofs.Single.{same}
use Rattle.text.specs.declared.Page.{Page}
use Rattle.text.specs.Page.{Gets}
use Rattle.text.proofs.hex.Reads as hex
use Rattle.text.proofs.hex_word.Reads as hex-word
use Rattle.text.proofs.Page.put.Kinds as put-kinds
use Rattle.text.proofs.Page.put.Reads as put

pub hex_one : (b : ℕ) (r q : List ℕ) → hex.Post tt (b, tt) r (b, tt) → hex.Post tt (b, tt) q (b, tt) → r ≡ q
hex_one b r q m n = same m n

pub hex_word_one : (w : ℕ) (r q : List ℕ) → hex-word.Post tt (w, tt) r (w, tt) → hex-word.Post tt (w, tt) q (w, tt) → r ≡ q
hex_word_one w r q m n = same m n

-- what two calls leave of a page is the same: the place, the bytes, and that they are the ones lent
abbrev pub PageOne : Page → Page → Type 0
PageOne p q = (p.at ≡ q.at) × (p.bytes.now ≡ q.bytes.now) × (p.bytes.ghost_name ≡ q.bytes.ghost_name)

pub page_one : {text : List ℕ} {before p q : Page} → Gets text before p → Gets text before q → PageOne p q
page_one m n = (same m.puts.place n.puts.place, same m.puts.content n.puts.content, same m.same_page n.same_page)

-- a: the arguments; e and f: what two calls leave of them, of which the page and its place are free to change
pub put_one : (κs : Lfts 3) (a : Dens κs put-kinds.ps) (e f : AtExit (ended_of 3 put-kinds.ps put-kinds.r) κs)
    → put.Post κs a tt e → put.Post κs a tt f → PageOne e.0.now f.0.now
put_one κs a e f m n = page_one m n
