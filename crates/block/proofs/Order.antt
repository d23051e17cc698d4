-- What `locate` refuses with is the first of 01's numbers, in 01's order, whose test holds.
-- Assumes nothing.
use Rattle.std.specs.Prelude.{Err}
use mathlib.Core.Path.{◌≡◌}
use mathlib.Core.List.{List}
use Prim.Native.Nat.{ℕ}
use Rattle.block.specs.declared.Kind.{Kind}
use Rattle.block.specs.declared.Part.{Part}
use Rattle.block.specs.Refusals.{first_of}
use Rattle.block.specs.Tables.{row_in}
use Rattle.block.specs.Layout.{kind_of}
use Rattle.block.specs.Parts.{place_tests, place_of, locate_of}
use Rattle.block.specs.Order.{number_in, part_tests}
use Rattle.block.proofs.Laws.{through}
use Rattle.block.specs.Shapes.{at_place}

pub order : (b : List ℕ) (p : Part) → number_in (locate_of b p) ≡ first_of (part_tests b p)
unfolding locate_of place_of
order b p =
    let k = kind_of b in
    through number_in Err (part_tests b p) (at_place (row_in k p).at (row_in k p).length)

pub place_order : (k : Kind) (d1 d2 : ℕ) (p : Part) → number_in (place_of k d1 d2 p) ≡ first_of (place_tests k d1 d2 p)
unfolding place_of
place_order k d1 d2 p = through number_in Err (place_tests k d1 d2 p) (at_place (row_in k p).at (row_in k p).length)
