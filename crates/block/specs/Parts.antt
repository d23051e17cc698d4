-- The parts of a data block (01, "Data blocks"): where they stand, and which of them test data hide.
-- Assumes nothing.
use Rattle.std.specs.Prelude.{Bool, not, ◌&&◌, ◌||◌, List, [], ◌∷◌, ◌++◌, ℕ, ◌+◌, leb, length, take, drop, Ok, Err}
use Rattle.base.specs.Pick.{pick}
use Rattle.block.specs.declared.Refusal.TheVariants.{Beyond, Hidden}
use Rattle.block.specs.declared.Kind.{Kind}
use Rattle.block.specs.declared.Part.{Part}
use Rattle.block.specs.declared.Part.TheVariants.{Marker, Index, Descriptor1, Descriptor2, EPad, E3dd, M}
use Rattle.block.specs.Shapes.{Located, at_place}
use Rattle.block.specs.Refusals.{Tests, unless}
use Rattle.block.specs.Tables.{among, has, row_in}
use Rattle.block.specs.Layout.{bit, kind_of, first, second, block_tests}

abbrev pub opening : List Part
opening = Marker ∷ Index ∷ Descriptor1 ∷ []

abbrev pub electrons : List Part
electrons = EPad ∷ E3dd ∷ M ∷ []

-- descriptor 1 bit 2: all but marker, index and descriptor 1;
-- bits 0 or 3: all but those, descriptor 2, E-PAD, E-3DD and m;
-- bit 1 or descriptor 2 bit 7: E-PAD, E-3DD and m
abbrev pub hidden : Part → ℕ → ℕ → Bool
hidden p d1 d2 =
    (not (among p opening) && bit d1 2)
    || (not (among p (opening ++ Descriptor2 ∷ electrons)) && (bit d1 0 || bit d1 3))
    || (among p electrons && (bit d1 1 || bit d2 7))

-- 22 not in this layout, 23 hidden; else its place and its length
abbrev pub place_tests : Kind → ℕ → ℕ → Part → Tests
place_tests k d1 d2 p = (not (has k p), Beyond) ∷ (hidden p d1 d2, Hidden) ∷ []

unfoldable pub place_of : Kind → ℕ → ℕ → Part → Located
place_of k d1 d2 p = unless Err (place_tests k d1 d2 p) (at_place (row_in k p).at (row_in k p).length)

-- in a block, which is asked first
unfoldable pub locate_of : List ℕ → Part → Located
locate_of b p = unless Err (block_tests b) (place_of (kind_of b) (first b) (second b (kind_of b)) p)

-- the bytes at a place: none where it is a refusal, or goes past the end
abbrev pub bytes_of : List ℕ → Located → List ℕ
bytes_of b (Ok x) = pick (leb (x.at + x.len) (length b)) (take x.len (drop x.at b)) []
bytes_of b (Err r) = []

unfoldable pub part_of : List ℕ → Part → List ℕ
part_of b p = bytes_of b (locate_of b p)
