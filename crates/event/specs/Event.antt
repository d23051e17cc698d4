-- Direct events (01, "Data blocks"; G 2.1 and the table of D in 2.2.3).
-- Assumes nothing.
use Rattle.std.specs.Prelude.{Bool, true, ◌&&◌, List, [], ◌∷◌, ◌++◌, ℕ, ◌+◌, ◌-◌, ◌*◌, ◌/◌, ◌%◌, leb, ltb, length, get_or, Ok, Err}
use Rattle.base.specs.Pick.{pick}
use Rattle.block.specs.declared.Refusal.TheVariants.{Beyond, Hidden}
use Rattle.block.specs.declared.Kind.{Kind}
use Rattle.block.specs.declared.Part.TheVariants.{DirectEvents}
use Rattle.block.specs.Refusals.{Tests, unless}
use Rattle.block.specs.Tables.{row_in}
use Rattle.block.specs.Layout.{kind_of, first, second, block_tests}
use Rattle.block.specs.Parts.{hidden}
use Rattle.event.specs.declared.Direction.{Direction}
use Rattle.event.specs.declared.Direction.TheVariants.{Head, HeadOnly, Unknown}
use Rattle.event.specs.declared.Event.{Event}
use Rattle.event.specs.Shapes.{Entry, Evented}

-- D of a direction: head and finer direction (0-11), head alone (12-14), unknown (15); heads 1 to 3, finer directions 0 to 3
abbrev pub d_of : Direction → ℕ
d_of (Head h x) = 4 * (h - 1) + x
d_of (HeadOnly h) = 12 + (h - 1)
d_of Unknown = 15

-- the directions that have a D
abbrev pub has_d : Direction → Bool
has_d (Head h x) = leb 1 h && leb h 3 && leb x 3
has_d (HeadOnly h) = leb 1 h && leb h 3
has_d Unknown = true

-- the direction of a D
abbrev pub direction_of : ℕ → Direction
direction_of d = pick (ltb d 12) (Head (d / 4 + 1) (d % 4)) (pick (ltb d 15) (HeadOnly (d - 11)) Unknown)

-- three bytes: energy, time, sector (high four bits) with direction D
abbrev pub event_from : ℕ → ℕ → ℕ → Event
event_from energy time third =
    record {
      energy = energy;
      time = time;
      sector = third / 16;
      direction = direction_of (third % 16);
    }

abbrev pub event_at : List ℕ → ℕ → Event
event_at b at = event_from (get_or b at 0) (get_or b (at + 1) 0) (get_or b (at + 2) 0)

-- the event at an entry, or why there is none; 22 where its three bytes are not all there
abbrev pub event_in : List ℕ → Entry → Evented
event_in b (Ok at) = pick (leb (at + 3) (length b)) (Ok (event_at b at)) (Err Beyond)
event_in b (Err r) = Err r

-- as many as fill their part: 20 in NM, 106 in BM1
abbrev pub events_in : Kind → ℕ
events_in k = (row_in k DirectEvents).length / 3

-- 22 beyond the last, then 23; what is no block is refused before
abbrev pub direct_tests : List ℕ → ℕ → Tests
direct_tests b n =
    block_tests b
    ++ (leb (events_in (kind_of b)) n, Beyond) ∷ (hidden DirectEvents (first b) (second b (kind_of b)), Hidden) ∷ []

unfoldable pub direct_of : List ℕ → ℕ → Evented
direct_of b n = unless Err (direct_tests b n) (Ok (event_at b ((row_in (kind_of b) DirectEvents).at + 3 * n)))
