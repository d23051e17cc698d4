-- What the desk does at a slot, and what it then shows (01, "The 40-byte frame", the paragraph "The desk takes slots").
-- The rows of the items, what a frame carries and what arrived are those of `frame`; one item is in `cell`, all of them in `cells`, a number half read
-- in `half`. Assumes nothing.
use Rattle.std.specs.Prelude.{List, ℕ, get_or, replicate, None, Ok, Err}
use Rattle.base.specs.Pick.{pick}
use Rattle.base.specs.Counts.{frames}
use Rattle.frame.specs.declared.Arrived.TheVariants.{Whole, FillC0, FillFF}
use Rattle.frame.specs.Shapes.{Came}
use Rattle.frame.specs.Read.{index_of, field_of, carries, born_of, is_plain, arrived_of}
use Rattle.frame.specs.Items.{items}
use Rattle.cell.specs.Shapes.{Shown, known}
use Rattle.cell.specs.Cell.{blank, shown_by}
use Rattle.half.specs.Shapes.{Half}
use Rattle.half.specs.Half.{grown_of, born_at, half_at}
use Rattle.cells.specs.Cells.{cells_after, nothing}
use Rattle.desk.specs.declared.Desk.{Desk}
use Rattle.desk.specs.declared.Answer.TheVariants.{Heard, Missed, Refused}
use Rattle.desk.specs.declared.Received.{Received}

-- what a whole frame by itself shows of the item in row k: a plain item at age 0; a spread number, where its last byte comes, at the age
-- of its first frame
unfoldable pub reading_of : Half → List ℕ → ℕ → Shown
reading_of half f k =
    pick (carries k (index_of f))
    (pick (is_plain k) (known (field_of f k) (frames 0)) (born_at (frames (born_of k)) (grown_of half (index_of f) (get_or f 39 0))))
    None

unfoldable pub half_after : Half → List ℕ → Half
half_after half f = half_at half (index_of f) (get_or f 39 0)

-- a fresh desk
abbrev pub fresh_desk : Desk
fresh_desk = record { cells = replicate items blank; half = None }

-- what a desk shows of the item in row k
abbrev pub shows : Desk → ℕ → Shown
shows d k = shown_by (get_or d.cells k blank)

-- a miss discards what is half read
abbrev pub missed_of : Desk → Desk
missed_of d = record { cells = cells_after nothing d.cells; half = None }

-- a whole frame
abbrev pub heard_of : Desk → List ℕ → Desk
heard_of d f = record { cells = cells_after (reading_of d.half f) d.cells; half = half_after d.half f }

-- by what arrived: a whole frame is heard, fill is a miss; where the bytes are refused (17) nothing changes and no slot passes
abbrev pub took_of : Desk → List ℕ → Came → Received
took_of d f (Ok (Whole t)) = record { answer = Heard; desk = heard_of d f }
took_of d f (Ok FillC0) = record { answer = Missed; desk = missed_of d }
took_of d f (Ok FillFF) = record { answer = Missed; desk = missed_of d }
took_of d f (Err r) = record { answer = Refused r; desk = d }

unfoldable pub slot_of : Desk → List ℕ → Received
slot_of d f = took_of d f (arrived_of f)
