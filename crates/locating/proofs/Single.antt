-- Single outcome: two results that meet a function's own contract at the same arguments are equal.
-- Stated of the contract that the checker makes of the source (`Reads.Post`). Assumes nothing.
use mathlib.Core.Path.{◌≡◌}
use mathlib.Core.List.{List}
use Prim.Native.Nat.{ℕ}
use contract.Lifetimes.{Lfts}
use denote.Ref.{Bor}
use Rattle.base.proofs.Single.{same}
use Rattle.block.specs.declared.Part.{Part}
use Rattle.block.specs.Shapes.{Located}
use Rattle.locating.proofs.locate.Reads as locate
use Rattle.locating.proofs.slice_of.Reads as slice_of

module _ (κs : Lfts 1) (b : Bor (List ℕ)) where
  pub locate_one : (p : Part) (r q : Located) → locate.Post κs (b, (p, tt)) r (b, (p, tt)) → locate.Post κs (b, (p, tt)) q (b, (p, tt)) → r ≡ q
  locate_one p r q m n = same m n

  -- of a slice handed back the outcome is its bytes
  pub slice_of_one : (p : Located) (r q : Bor (List ℕ)) → slice_of.Post κs (b, (p, tt)) r (b, (p, tt)) → slice_of.Post κs (b, (p, tt)) q (b, (p, tt)) → r.now ≡ q.now
  slice_of_one p r q m n = same m n
