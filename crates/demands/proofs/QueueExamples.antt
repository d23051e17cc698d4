-- Frames on their way, by example: two on their way at once, and what a frame that overtakes another does to demand 3.
-- Assumes nothing.
use mathlib.Core.Path.{◌≡◌, refl, sym, ◌∙◌, ap}
use mathlib.Core.List.{List, [], ◌∷◌}
use Prim.Native.Nat.{ℕ}
use native.Mathlib.Omega.{arith}
use Rattle.base.specs.Counts.{frames}
use Rattle.frame.specs.declared.Item.TheVariants.{LongCounter}
use Rattle.frame.specs.Items.{row_of}
use Rattle.frame.specs.Write.{quarter_of, ground_at, mux_of, frame_of}
use Rattle.frame.specs.Read.{all_are, arrived_of, is_plain}
use Rattle.cell.specs.Shapes.{Shown, known}
use Rattle.cells.specs.Cells.{cells_after}
use Rattle.desk.specs.Desk.{reading_of, half_after, slot_of}
use Rattle.demands.specs.History.{missed, whole, Told}
use Rattle.demands.specs.Outfit.{proved}
use Rattle.demands.specs.Queue.{Line, spin, cut, Step, alone, built, came, begin, steps}
use Rattle.demands.proofs.Shown.{back, brought, shown_of, told}
use Rattle.demands.proofs.One.{value_in, one_told}

-- the long EDB counter that the desk of a line shows
abbrev see : Line → Shown
see l = proved.look l.desk LongCounter

-- four frames built, a spin after the first, before any arrives: the counter is the one latched, aged by slots
several : see (steps proved (begin proved) (alone spin ∷ built ∷ alone spin ∷ built ∷ built ∷ built ∷ came ∷ came ∷ came ∷ came ∷ [])) ≡ known 1 (frames 3)
unfolding steps slot_of arrived_of all_are cells_after reading_of is_plain half_after frame_of mux_of quarter_of ground_at
several = refl

-- a frame built and handed over in one, whatever is on its way
abbrev overtakes : Line → Line
overtakes w =
    record { rig = proved.rig.sent w.rig; desk = (proved.slot w.desk (proved.frame w.rig)).desk; past = whole w.rig ∷ w.past; way = w.way }

-- the same, its slot marked missed
abbrev overtakes_lost : Line → Line
overtakes_lost w = record { rig = proved.rig.sent w.rig; desk = proved.missed w.desk; past = missed ∷ w.past; way = w.way }

-- frame 0 is built with the counter at 1, and is on its way; power is cut; the new frame 0 overtakes it; then it arrives, and the new frames 1 to 3
abbrev before : Line
before = steps proved (begin proved) (alone spin ∷ built ∷ alone cut ∷ [])

abbrev rest : List Step
rest = came ∷ built ∷ came ∷ built ∷ came ∷ built ∷ came ∷ []

-- the desk joins the old frame 0 to the new 1 to 3 and shows 0, where the rig held 1 when the first of these four was built
overtaken : (see (steps proved (overtakes before) rest) ≡ known 0 (frames 3)) × (shown_of (row_of LongCounter) (steps proved (overtakes before) rest).past ≡ known 1 (frames 3))
unfolding steps slot_of arrived_of all_are cells_after reading_of is_plain half_after frame_of mux_of quarter_of ground_at shown_of brought back
overtaken = (refl, refl)

overtaken_lost : (see (steps proved (overtakes_lost before) rest) ≡ known 0 (frames 3)) × (shown_of (row_of LongCounter) (steps proved (overtakes_lost before) rest).past ≡ known 1 (frames 3))
unfolding steps slot_of arrived_of all_are cells_after reading_of is_plain half_after frame_of mux_of quarter_of ground_at shown_of brought back
overtaken_lost = (refl, refl)

-- so demand 3 does not hold of such a run
wrong : (l : Line) → see l ≡ known 0 (frames 3) → shown_of (row_of LongCounter) l.past ≡ known 1 (frames 3) → Told (row_of LongCounter) l.past (see l) → ⊥
wrong l e f t =
    let g : see l ≡ shown_of (row_of LongCounter) l.past = one_told (row_of LongCounter) l.past _ _ t (told (row_of LongCounter) (omega arith) l.past) in
    let z : ◌≡◌ {A = ℕ} 0 1 = ap value_in (sym e ∙ g ∙ f) in omega arith

pub no_overtaking : Told (row_of LongCounter) (steps proved (overtakes before) rest).past (see (steps proved (overtakes before) rest)) → ⊥
no_overtaking = wrong (steps proved (overtakes before) rest) overtaken.0 overtaken.1

pub no_overtaking_lost : Told (row_of LongCounter) (steps proved (overtakes_lost before) rest).past (see (steps proved (overtakes_lost before) rest)) → ⊥
no_overtaking_lost = wrong (steps proved (overtakes_lost before) rest) overtaken_lost.0 overtaken_lost.1
