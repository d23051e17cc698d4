-- Single outcome: two results that meet a function's own contract at the same arguments are equal.
-- Stated of the contract that the checker makes of the source (`Reads.Post`). Assumes nothing.
use mathlib.Core.Path.{◌≡◌}
use mathlib.Core.List.{List}
use Prim.Native.Nat.{ℕ}
use Rattle.base.proofs.Single.{same}
use Rattle.block.specs.declared.Part.{Part}
use Rattle.part_names.specs.Shapes.{Listed}
use Rattle.part_names.proofs.part_in.Reads as part_in
use Rattle.part_names.proofs.part_name.Reads as part-name

pub part_in_one : (k : ℕ) (r q : Listed) → part_in.Post tt (k, tt) r (k, tt) → part_in.Post tt (k, tt) q (k, tt) → r ≡ q
part_in_one k r q m n = same m n

pub part_name_one : (p : Part) (r q : List ℕ) → part-name.Post tt (p, tt) r (p, tt) → part-name.Post tt (p, tt) q (p, tt) → r ≡ q
part_name_one p r q m n = same m n
