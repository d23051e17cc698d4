-- Single outcome: two results that meet a function's own contract at the same arguments are equal.
-- Assumes nothing.
use Rattle.std.specs.Prelude.{Option}
use mathlib.Core.Path.{◌≡◌}
use mathlib.Core.List.{List}
use Prim.Native.Nat.{ℕ}
use contract.Lifetimes.{Lfts}
use denote.Triple.Clauses.{AtExit}
use borrow.Fn.Kinds.{Dens, ended_of}
use Rattle.base.proofs.Single.{same}
use Rattle.menu_names.proofs.name_of.Reads as name_of
use Rattle.menu_names.proofs.words_in.Reads as words_in
use Rattle.menu_names.proofs.find.Kinds.{ps, r}
use Rattle.menu_names.proofs.find.Reads as find

pub name_of_one : (row : ℕ) (x y : List ℕ) → name_of.Post tt (row, tt) x (row, tt) → name_of.Post tt (row, tt) y (row, tt) → x ≡ y
name_of_one row x y m n = same m n

-- words that are only read are as they were, so the exit has nothing to fix
pub find_one : (κs : Lfts 2) (a : Dens κs ps) (e f : AtExit (ended_of 2 ps r) κs) (x y : Option ℕ) → find.Post κs a x e → find.Post κs a y f → x ≡ y
find_one κs a e f x y m n = same m n

pub words_in_one : (row x y : ℕ) → words_in.Post tt (row, tt) x (row, tt) → words_in.Post tt (row, tt) y (row, tt) → x ≡ y
words_in_one row x y m n = same m.0 n.0
