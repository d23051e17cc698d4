-- The name in a row of a text of names, 20 bytes each, with blanks behind it; past the last row blanks alone.
-- Assumes nothing.
use Rattle.std.specs.Prelude.{List, ℕ, ◌*◌, ◌/◌, ltb, length, take, drop, replicate}
use Rattle.base.specs.Pick.{pick}

unfoldable pub name_in : List ℕ → ℕ → List ℕ
name_in names row = pick (ltb row (length names / 20)) (take 20 (drop (20 * row) names)) (replicate 20 0x20)
