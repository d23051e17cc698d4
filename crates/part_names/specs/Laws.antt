-- What is true of the names of the parts: each part is found at its number, and no two have one name.
-- Keeps 01 "Data blocks", the parts of G's position tables. Assumes nothing.
use Rattle.std.specs.Prelude.{◌≡◌, ℕ, ◌≤◌, length, Some, None}
use Rattle.block.specs.declared.Part.{Part}
use Rattle.block.specs.Tables.{row_of, parts}
use Rattle.part_names.specs.Names.{part_name, part_in}

pub record Laws : Type 0 where
  pub found : (p : Part) → part_in (row_of p) ≡ Some p
  pub past : (n : ℕ) → length parts ≤ n → part_in n ≡ None
  pub apart : (p q : Part) → part_name p ≡ part_name q → p ≡ q
  pub room : (p : Part) → length (part_name p) ≡ 20
