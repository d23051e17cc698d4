-- What is true of the names of the items: each item is found in its row, and no two have one name.
-- Keeps 01 "The 40-byte frame", its items. Assumes nothing.
use Rattle.std.specs.Prelude.{◌≡◌, ℕ, ◌≤◌, length, Some, None}
use Rattle.frame.specs.declared.Item.{Item}
use Rattle.frame.specs.Items.{items, row_of}
use Rattle.item_names.specs.Names.{name_of, item_in}

pub record Laws : Type 0 where
  pub found : (x : Item) → item_in (row_of x) ≡ Some x
  pub past : (k : ℕ) → items ≤ k → item_in k ≡ None
  pub apart : (x y : Item) → name_of x ≡ name_of y → x ≡ y
  pub room : (x : Item) → length (name_of x) ≡ 20
