-- Worked runs: the statement is not empty, and its bound is the least.
-- Assumes nothing.
use Rattle.std.specs.Prelude.{None}
use mathlib.Core.Path.{◌≡◌, refl}
use mathlib.Core.List.{List, [], ◌∷◌, ◌++◌}
use Prim.Native.Nat.{ℕ, zero, suc}
use native.Mathlib.Omega.{arith}
use lib.ListN.{replicate}
use Rattle.base.specs.Counts.{frames}
use Rattle.frame.specs.declared.Item.TheVariants.{LongCounter}
use Rattle.frame.specs.Write.{quarter_of, ground_at, mux_of, frame_of}
use Rattle.frame.specs.Read.{all_are, arrived_of, is_plain}
use Rattle.cell.specs.Shapes.{Shown, known}
use Rattle.cells.specs.Cells.{cells_after}
use Rattle.desk.specs.Desk.{reading_of, half_after, slot_of}
use Rattle.demands.specs.Outfit.{proved}
use Rattle.demands.specs.Queue.{spin, marked, Step, alone, built, came, gone, steps}
use Rattle.demands.specs.Demand3.{reached, TooFew}

-- a frame built and arrived whole; built and lost
abbrev whole : List Step
whole = built ∷ came ∷ []

abbrev missed : List Step
missed = built ∷ gone marked ∷ []

abbrev times : ℕ → List Step → List Step
times zero ss = []
times (suc n) ss = ss ++ times n ss

-- the long EDB counter that the desk shows after a run
abbrev pub see : List Step → Shown
see ss = proved.look (reached proved ss).desk LongCounter

-- 34 whole slots are too few: the counter shown is still the one of before the spin
pub too_few : TooFew proved
unfolding steps slot_of arrived_of all_are cells_after reading_of is_plain half_after frame_of mux_of quarter_of ground_at
too_few =
    record {
      run = built ∷ came ∷ alone spin ∷ [];
      before = refl;
      item = LongCounter;
      value = 0;
      age = frames 34;
      old = refl;
      after = refl;
      differs = λ (e : ◌≡◌ {A = ℕ} 0 1). omega arith;
    }

-- one more, and it is the present one
pub just_enough : see (whole ++ (alone spin ∷ times 35 whole)) ≡ known 1 (frames 3)
unfolding steps slot_of arrived_of all_are cells_after reading_of is_plain half_after frame_of mux_of quarter_of ground_at
just_enough = refl

-- the counter is the one latched at frame 0, three slots old when it is whole
pub latched : see (replicate 5 (alone spin) ++ (whole ++ (alone spin ∷ alone spin ∷ times 3 whole))) ≡ known 5 (frames 3)
unfolding steps slot_of arrived_of all_are cells_after reading_of is_plain half_after frame_of mux_of quarter_of ground_at
latched = refl

-- bytes 0, 1 of one round are not joined to 2, 3 of the next
pub not_joined : see (alone spin ∷ (times 2 whole ++ (times 32 missed ++ times 2 whole))) ≡ None
unfolding steps slot_of arrived_of all_are cells_after reading_of is_plain half_after frame_of mux_of quarter_of ground_at
not_joined = refl
