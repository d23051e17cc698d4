-- Single outcome: two results that meet the function's own contract at the same arguments are equal.
-- Stated of the contract that the checker makes of the source (`Reads.Post`). Assumes nothing.
use mathlib.Core.Path.{◌≡◌}
use mathlib.Core.List.{List}
use Prim.Native.Nat.{ℕ}
use contract.Lifetimes.{Lfts}
use denote.Ref.{Bor}
use Rattle.base.proofs.Single.{same}
use Rattle.block.specs.Shapes.{Found}
use Rattle.layout.proofs.layout_of.Reads as layout_of

pub layout_of_one : (κs : Lfts 1) (b : Bor (List ℕ)) (r q : Found) → layout_of.Post κs (b, tt) r (b, tt) → layout_of.Post κs (b, tt) q (b, tt) → r ≡ q
layout_of_one κs b r q m n = same m n
