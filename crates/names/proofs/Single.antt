-- Single outcome: two results that meet the function's own contract at the same arguments are equal.
-- Stated of the contract that the checker makes of the source (`Reads.Post`). Assumes nothing.
use mathlib.Core.Path.{◌≡◌}
use mathlib.Core.List.{List}
use Prim.Native.Nat.{ℕ}
use contract.Lifetimes.{Lfts}
use denote.Ref.{Bor}
use Rattle.base.proofs.Single.{same}
use Rattle.names.proofs.name_in.Reads as name_in

pub name_in_one : (κs : Lfts 1) (s : Bor (List ℕ)) (k : ℕ) (r q : List ℕ) → name_in.Post κs (s, (k, tt)) r (s, (k, tt)) → name_in.Post κs (s, (k, tt)) q (s, (k, tt)) → r ≡ q
name_in_one κs s k r q m n = same m n
