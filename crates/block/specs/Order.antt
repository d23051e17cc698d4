-- The refusals of a part in 01's order: 20 (under 3), 19, 20, 21, 22, 23. And what a memory dump is not asked for.
-- Assumes nothing.
use Rattle.std.specs.Prelude.{Bool, false, ◌||◌, List, [], ◌∷◌, ◌++◌, ℕ, ◌+◌, eqb, Ok, Err}
use Rattle.block.specs.declared.Kind.{Kind}
use Rattle.block.specs.declared.Part.{Part}
use Rattle.block.specs.Shapes.{Located}
use Rattle.block.specs.Refusals.{Tests, number_of}
use Rattle.block.specs.Kinds.{kinds, inner_of, second_at}
use Rattle.block.specs.Layout.{kind_of, first, second, block_tests}
use Rattle.block.specs.Parts.{place_tests}

-- the number of an answer: 0 where a part was located
abbrev pub number_in : Located → ℕ
number_in (Ok x) = 0
number_in (Err r) = number_of r

-- what is asked of a part, after what is asked of the block
abbrev pub part_tests : List ℕ → Part → Tests
part_tests b p = block_tests b ++ place_tests (kind_of b) (first b) (second b (kind_of b)) p

-- byte k is descriptor 2 or of an inner marker, of one of these kinds
abbrev pub in_markers : ℕ → List (ℕ × ℕ × ℕ × ℕ) → Bool
in_markers k [] = false
in_markers k (m ∷ ms) = eqb k m.0 || eqb k (m.0 + 1) || eqb k (m.0 + 2) || in_markers k ms

abbrev pub unread_of : ℕ → List Kind → Bool
unread_of k [] = false
unread_of k (x ∷ xs) = eqb k (second_at x) || in_markers k (inner_of x) || unread_of k xs

abbrev pub unread : ℕ → Bool
unread k = unread_of k kinds
