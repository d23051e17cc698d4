-- The digit of a letter. The letter of a digit is `digit` of crate `text`.
-- Assumes nothing.
use Rattle.std.specs.Prelude.{ℕ, ◌+◌, ◌-◌, ltb}
use Rattle.base.specs.Pick.{pick}

-- The digit that a letter stands for: `0` to `9`, `A` (41h) to `F`, `a` (61h) to `f`; 16 for every other letter.
unfoldable pub digit_of : ℕ → ℕ
digit_of b =
    pick (ltb b 0x30) 16
    (pick (ltb b 0x3A) (b - 0x30)
    (pick (ltb b 0x41) 16
    (pick (ltb b 0x47) (b - 0x41 + 10)
    (pick (ltb b 0x61) 16
    (pick (ltb b 0x67) (b - 0x61 + 10)
    16)))))

-- a small letter for a capital; a numeral stays
abbrev pub small : ℕ → ℕ
small b = pick (ltb 0x40 b) (b + 0x20) b
