-- `desk::heard` meets its contract: the cells, and what is half read.
-- Assumes nothing.
use Rattle.std.proofs.Common.{◌≡◌, ◌∙◌, ap, List, ℕ}
use Rattle.frame.specs.declared.Turn.{Turn}
use Rattle.cell.specs.declared.Cell.{Cell}
use Rattle.half.specs.Shapes.{Half}
use Rattle.cells.specs.Cells.{cells_after}
use Rattle.bringing.specs.Bringing.{told_by}
use Rattle.desk.specs.declared.Desk.{Desk}
use Rattle.desk.specs.Desk.{reading_of, half_after, heard_of}
use Rattle.cells.proofs.Cells.{cells_same}
use Rattle.desk.proofs.Readings.{reading_is, half_is}
use Rattle.desk.proofs.heard.Goals as goal

by_parts : (d : Desk) (f : List ℕ) (cs : List Cell) (h : Half)
    → cs ≡ cells_after (reading_of d.half f) d.cells → h ≡ half_after d.half f → ◌≡◌ {A = Desk} record { cells = cs; half = h } (heard_of d f)
by_parts d f cs h p q = rw (p, q)

pub returns : goal.returns
returns c =
    let a = c.args in
    let f = a.frame.now in
    let half = a.desk.half in
    let i = ap (λ (t : Turn). t.index) c.requires.1 in
    let b = ap (λ (t : Turn). t.byte39) c.requires.1 in
    by_parts a.desk f _ _
    (c.cells_after-cells.ensures
    ∙ cells_same (told_by half f a.turn.index a.turn.byte39) (reading_of half f) a.desk.cells (reading_is half f a.turn.index a.turn.byte39 c.requires.0 i b))
    (c.half_after-half.ensures ∙ half_is half f a.turn.index a.turn.byte39 i b)
