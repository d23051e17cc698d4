-- Single outcome: two results that meet a function's own contract at the same arguments are equal.
-- Stated of the contract that the checker makes of the source (`Reads.Post`). Assumes nothing.
use mathlib.Core.Path.{◌≡◌}
use mathlib.Core.List.{List}
use Prim.Native.Nat.{ℕ}
use Rattle.base.proofs.Single.{same}
use Rattle.frame.specs.declared.Item.{Item}
use Rattle.item_names.specs.Shapes.{InRow}
use Rattle.item_names.proofs.item_in.Reads as item_in
use Rattle.item_names.proofs.name_of.Reads as name_of

pub item_in_one : (k : ℕ) (r q : InRow) → item_in.Post tt (k, tt) r (k, tt) → item_in.Post tt (k, tt) q (k, tt) → r ≡ q
item_in_one k r q m n = same m n

pub name_of_one : (x : Item) (r q : List ℕ) → name_of.Post tt (x, tt) r (x, tt) → name_of.Post tt (x, tt) q (x, tt) → r ≡ q
name_of_one x r q m n = same m n
