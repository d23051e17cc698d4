-- 01's example, computed from the definitions: the listing of 08 02 2D 01 29 0A 28 0B 28 05 is exactly the text that 01 prints.
-- Assumes nothing.
use mathlib.Core.Path.{◌≡◌, refl}
use mathlib.Core.List.{List, [], ◌∷◌, ◌++◌}
use Prim.Native.Nat.{ℕ}
use Rattle.supply.specs.Rules.{relay_of, targeted, limited, switched}
use Rattle.judge.specs.Commands.{carried, single_of}
use Rattle.rig.specs.Words.{take_of, take_with, fresh_of, settled_of, refused_of, kind_of}
use Rattle.base.specs.Ascii.{ascii}
use Rattle.text.specs.Digits.{digit}
use Rattle.numerals.specs.Decimal.{decimal}
use Rattle.listing.specs.Listing.{listing_of}

-- 01's lines
abbrev printed : List ℕ
printed =
    ascii "word answer\n"
    ++ ascii "0802 accepted\n"
    ++ ascii "2D01 accepted\n"
    ++ ascii "290A accepted\n"
    ++ ascii "280B refused 06\n"
    ++ ascii "2805 accepted\n"
    ++ ascii "invalid 1 last 28 code 06\n"

pub example : listing_of (0x08 ∷ 0x02 ∷ 0x2D ∷ 0x01 ∷ 0x29 ∷ 0x0A ∷ 0x28 ∷ 0x0B ∷ 0x28 ∷ 0x05 ∷ []) ≡ printed
unfolding relay_of targeted limited switched carried single_of take_of take_with fresh_of settled_of refused_of kind_of digit decimal
example = refl
