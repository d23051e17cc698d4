-- Single outcome: two results that meet a function's own contract at the same arguments are equal.
-- Stated of the contract that the checker makes of the source (`Reads.Post`). Assumes nothing.
use mathlib.Core.Path.{◌≡◌}
use Prim.Native.Nat.{ℕ}
use Rattle.base.proofs.Single.{same}
use Rattle.block.specs.declared.Layout.{Layout}
use Rattle.block.specs.declared.Part.{Part}
use Rattle.block.specs.Shapes.{Located}
use Rattle.placing.proofs.row_of.Reads as row_of
use Rattle.placing.proofs.place_of.Reads as place_of

pub row_of_one : (p : Part) (r q : ℕ) → row_of.Post tt (p, tt) r (p, tt) → row_of.Post tt (p, tt) q (p, tt) → r ≡ q
row_of_one p r q m n = same m n

pub place_of_one : (l : Layout) (p : Part) (r q : Located) → place_of.Post tt (l, (p, tt)) r (l, (p, tt)) → place_of.Post tt (l, (p, tt)) q (l, (p, tt)) → r ≡ q
place_of_one l p r q m n = same m n
