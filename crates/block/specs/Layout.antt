-- What a data block is (01, "Data blocks"; G 2.1): its kind, by marker and length, with its two content descriptors.
-- Assumes nothing.
use Rattle.std.specs.Prelude.{Bool, true, false, not, ◌&&◌, ◌||◌, List, [], ◌∷◌, ℕ, ◌+◌, ◌/◌, ◌%◌, ◌^◌, eqb, ltb, length, get_or, Err}
use Rattle.base.specs.Pick.{pick}
use Rattle.block.specs.declared.Refusal.TheVariants.{NoMarker, WrongLength, InnerMarker}
use Rattle.block.specs.declared.Kind.{Kind}
use Rattle.block.specs.declared.Kind.TheVariants.{Nm}
use Rattle.block.specs.Shapes.{Found, laid_out}
use Rattle.block.specs.Refusals.{Tests, unless}
use Rattle.block.specs.Kinds.{kinds, length_of, marker_of, inner_of, second_at}

-- the three bytes at a place are x y z
unfoldable pub marker : List ℕ → ℕ → ℕ → ℕ → ℕ → Bool
marker b at x y z = eqb (get_or b at 0) x && (eqb (get_or b (at + 1) 0) y && eqb (get_or b (at + 2) 0) z)

-- the block begins with a kind's marker
abbrev pub begins : List ℕ → Kind → Bool
begins b k = marker b 0x000 0x14 0x6F (marker_of k)

-- it begins with a known one; and the kind of that one, which is asked for only then
abbrev pub known : List ℕ → List Kind → Bool
known b [] = false
known b (k ∷ ks) = begins b k || known b ks

abbrev pub told : List ℕ → List Kind → Kind
told b [] = Nm
told b (k ∷ ks) = pick (begins b k) k (told b ks)

unfoldable pub kind_of : List ℕ → Kind
kind_of b = told b kinds

-- the inner markers of a kind stand where they should
abbrev pub stand : List ℕ → List (ℕ × ℕ × ℕ × ℕ) → Bool
stand b [] = true
stand b (m ∷ ms) = marker b m.0 m.1 m.2 m.3 && stand b ms

abbrev pub inner : List ℕ → Kind → Bool
inner b k = stand b (inner_of k)

-- bit k of a byte is set
abbrev pub bit : ℕ → ℕ → Bool
bit d k = eqb (d / 2 ^ k % 2) 1

-- descriptor 1 is byte 4; with its bit 2 set neither descriptor 2 nor the inner markers are looked at
abbrev pub first : List ℕ → ℕ
first b = get_or b 4 0

abbrev pub dumped : List ℕ → Bool
dumped b = bit (first b) 2

-- descriptor 2 counts as 0 where it is not looked at
abbrev pub second : List ℕ → Kind → ℕ
second b k = pick (dumped b) 0 (get_or b (second_at k) 0)

-- 20 and 21, of a kind
abbrev pub kind_tests : List ℕ → Kind → Tests
kind_tests b k =
    (not (eqb (length b) (length_of k)), WrongLength)
    ∷ (not (dumped b || inner b k), InnerMarker)
    ∷ []

-- what every question asks of a block first: 20 (under 3), 19, 20, 21
abbrev pub block_tests : List ℕ → Tests
block_tests b = (ltb (length b) 3, WrongLength) ∷ (not (known b kinds), NoMarker) ∷ kind_tests b (kind_of b)

unfoldable pub layout_of : List ℕ → Found
layout_of b = unless Err (block_tests b) (laid_out (kind_of b) (first b) (second b (kind_of b)))
