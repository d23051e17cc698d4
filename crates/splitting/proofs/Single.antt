-- Single outcome: two results that meet a function's own contract at the same arguments are equal.
-- Stated of the contract that the checker makes of the source (`Reads.Post`), so that it cannot drift from it. Assumes nothing.
use mathlib.Core.Path.{◌≡◌}
use mathlib.Core.List.{List}
use Prim.Native.Nat.{ℕ}
use contract.Lifetimes.{Lfts}
use denote.Ref.{Bor}
use denote.Triple.Clauses.{AtExit}
use borrow.Fn.Kinds.{Dens, ended_of}
use Rattle.base.proofs.Single.{same}
use Rattle.splitting.proofs.count.Kinds as count-kinds
use Rattle.splitting.proofs.count.Reads as count
use Rattle.splitting.proofs.word.Reads as word

-- a line that is only read is as it was, so the exit has nothing to fix
pub count_one : (κs : Lfts 1) (a : Dens κs count-kinds.ps) (e f : AtExit (ended_of 1 count-kinds.ps count-kinds.r) κs) (x y : ℕ)
    → count.Post κs a x e → count.Post κs a y f → x ≡ y
count_one κs a e f x y m n = same m n

-- of a slice handed back the outcome is its bytes
pub word_one : (κs : Lfts 1) (line : Bor (List ℕ)) (k : ℕ) (r q : Bor (List ℕ))
    → word.Post κs (line, (k, tt)) r (line, (k, tt)) → word.Post κs (line, (k, tt)) q (line, (k, tt)) → r.now ≡ q.now
word_one κs line k r q m n = same m n
