-- Hex digits (01, "Bench cases": the lister's text has them in upper case).
-- Assumes nothing.
use Rattle.std.specs.Prelude.{ℕ, ◌+◌, ◌-◌, ◌/◌, ◌%◌, List, [], ◌∷◌, ◌++◌, ltb}
use Rattle.base.specs.Pick.{pick}

-- A digit's letter: `0` (30h) to `9`, then `A` (41h) to `F`.
unfoldable pub digit : ℕ → ℕ
digit d = pick (ltb d 10) (0x30 + d) (0x41 + (d - 10))

-- a byte as two hex digits
abbrev pub hex_byte : ℕ → List ℕ
hex_byte b = digit (b / 16) ∷ digit (b % 16) ∷ []

-- a word as four hex digits
abbrev pub hex_word : ℕ → List ℕ
hex_word word = hex_byte (word / 256) ++ hex_byte (word % 256)
