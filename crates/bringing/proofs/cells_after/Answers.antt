-- `bringing::cells_after` meets its contract: each cell is the one after what its row shows.
-- Assumes nothing.
use Rattle.std.proofs.Common.{ℕ, get_or, refl}
use Rattle.frame.specs.Read.{is_plain}
use Rattle.cell.specs.Cell.{blank, cell_after}
use Rattle.cells.specs.Cells.{cells_after}
use Rattle.cells.proofs.Cells.{row}
use Rattle.bringing.specs.Bringing.{told_by}
use Rattle.bringing.proofs.cells_after.Goals as goal

pub returns : goal.returns
unfolding cells_after is_plain
returns c =
    let a = c.args in
    let g = λ (k : ℕ). cell_after (told_by a.half a.slot.now a.turn.index a.turn.byte39 k) (get_or a.old k blank) in
    (row g 0 c.plain_cell.ensures
    (row g 1 c.plain_cell-2.ensures
    (row g 2 c.plain_cell-3.ensures
    (row g 3 c.plain_cell-4.ensures
    (row g 4 c.plain_cell-5.ensures
    (row g 5 c.plain_cell-6.ensures
    (row g 6 c.plain_cell-7.ensures
    (row g 7 c.plain_cell-8.ensures
    (row g 8 c.plain_cell-9.ensures
    (row g 9 c.plain_cell-10.ensures
    (row g 10 c.plain_cell-11.ensures
    (row g 11 c.plain_cell-12.ensures
    (row g 12 c.plain_cell-13.ensures
    (row g 13 c.plain_cell-14.ensures
    (row g 14 c.plain_cell-15.ensures
    (row g 15 c.plain_cell-16.ensures
    (row g 16 c.plain_cell-17.ensures
    (row g 17 c.plain_cell-18.ensures
    (row g 18 c.plain_cell-19.ensures
    (row g 19 c.plain_cell-20.ensures
    (row g 20 c.plain_cell-21.ensures
    (row g 21 c.plain_cell-22.ensures
    (row g 22 c.plain_cell-23.ensures
    (row g 23 c.plain_cell-24.ensures
    (row g 24 c.plain_cell-25.ensures
    (row g 25 (rw c.spread.ensures at c.told.ensures)
    (row g 26 (rw c.spread-2.ensures at c.told-2.ensures)
    (row g 27 c.plain_cell-26.ensures
    (row g 28 c.plain_cell-27.ensures
    (row g 29 c.plain_cell-28.ensures
    (row g 30 c.plain_cell-29.ensures
    (row g 31 c.plain_cell-30.ensures
    (row g 32 c.plain_cell-31.ensures refl)))))))))))))))))))))))))))))))))
