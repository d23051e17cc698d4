-- The cells of all items after a slot (01, "The 40-byte frame", the paragraph "The desk takes slots").
-- The rows of the items are those of `frame`; one item is in `cell`. Assumes nothing.
use Rattle.std.specs.Prelude.{List, [], ◌∷◌, ℕ, zero, suc, get_or, None}
use Rattle.frame.specs.Items.{items}
use Rattle.cell.specs.Shapes.{Shown}
use Rattle.cell.specs.declared.Cell.{Cell}
use Rattle.cell.specs.Cell.{blank, cell_after}

-- a miss shows nothing
abbrev pub nothing : ℕ → Shown
nothing k = None

-- g k, g (k + 1), .. : n in all
abbrev pub cells_from : (ℕ → Cell) → ℕ → ℕ → List Cell
cells_from g k zero = []
cells_from g k (suc n) = g k ∷ cells_from g (suc k) n

-- the cells after a slot that by itself shows f k of the item in row k
unfoldable pub cells_after : (ℕ → Shown) → List Cell → List Cell
cells_after f cs = cells_from (λ k. cell_after (f k) (get_or cs k blank)) 0 items
