-- What the rig holds of each item and where a frame has it, as a table: from the start, these steps give these items these values, every item not named
-- is as at the start, and the frames built then have these bytes.
-- Keeps 01 "Command words", "Spins and power" and the items of "The 40-byte frame"; 02 (ii), the register; 02 (iv), three supplies. Assumes nothing.
use Rattle.std.specs.Prelude.{◌≡◌, Bool, true, false, not, ◌&&◌, ◌||◌, List, [], ◌∷◌, ◌++◌, ℕ, zero, suc, eqb, get_or, replicate}
use Rattle.base.specs.Pick.{pick}
use Rattle.frame.specs.declared.Item.{Item}
use Rattle.frame.specs.declared.Item.TheVariants.{Parallel, Multiplexer1, Multiplexer2, Multiplexer3, ErrorCode, DirectionStop, DirectionStart, EnergyStop, EnergyStart, LastInvalidCode, IelEnable, ReducedCounter, Bias, Relay, Ground, StopStepping, StopLimit, StopLevel, Flap1, Flap2, Flap3, IelClock, LastCheck, InvalidCount, HeadMask, LongCounter, FreeTime, StartStepping, StartLimit, StartLevel, DeflectionStepping, DeflectionLimit, DeflectionLevel}
use Rattle.frame.specs.Items.{row_of}
use Rattle.power.specs.declared.PanelSetting.{PanelSetting}
use Rattle.power.specs.declared.PanelSetting.TheVariants as panel
use Rattle.rig.specs.declared.Rig.{Rig}
use Rattle.laws.specs.Runs.{Machine}
use Rattle.demands.specs.Outfit.{Outfit}

-- a step: a word sent, a spin, a setting by the instructor
pub data Do : Type 0 where
  send : ℕ → Do
  spin : Do
  set : PanelSetting → Do

unfoldable pub doing : Machine → Rig → List Do → Rig
doing m r [] = r
doing m r (send w ∷ ds) = doing m (m.take r w).rig ds
doing m r (spin ∷ ds) = doing m (m.spin r) ds
doing m r (set s ∷ ds) = doing m (m.set r s) ds

-- a row: steps from the start; the items that they move, each with its value; and of the frames then built, by index and byte, what stands there
pub record Row : Type 0 where
  pub steps : List Do
  pub moved : List (Item × ℕ)
  pub bytes : List (ℕ × (ℕ × ℕ))

abbrev pub row : List Do → List (Item × ℕ) → List (ℕ × (ℕ × ℕ)) → Row
row ds ms bs = record { steps = ds; moved = ms; bytes = bs }

-- a direction window, and two energy windows
abbrev pub direction_block : List Do
direction_block = send 0x6302 ∷ send 0xA31E ∷ send 0xA315 ∷ send 0xE3EA ∷ []

abbrev pub energy_block : List Do
energy_block = send 0x6402 ∷ send 0xA413 ∷ send 0xA41D ∷ send 0xE43B ∷ []

abbrev pub other_energy_block : List Do
other_energy_block = send 0x6402 ∷ send 0xA401 ∷ send 0xA400 ∷ send 0xE415 ∷ []

-- what one spin moves by itself
abbrev pub one_spin : List (Item × ℕ)
one_spin = (LongCounter, 1) ∷ (ReducedCounter, 0) ∷ []

-- limits 15, 12 and 9 of stop, start and deflection, targets 15, 11 and 7, and twelve spins
abbrev pub all_up : List Do
all_up =
    send 0x0802 ∷ send 0x2D01 ∷ send 0x2C01 ∷ send 0x2201 ∷ send 0x290F ∷ send 0x210C ∷ send 0x2409 ∷ send 0x280F ∷ send 0x200B ∷ send 0x2307
    ∷ replicate 12 spin

abbrev pub limits_and_switches : List (Item × ℕ)
limits_and_switches =
    (StopStepping, 1) ∷ (StartStepping, 1) ∷ (DeflectionStepping, 1) ∷ (StopLimit, 15) ∷ (StartLimit, 12) ∷ (DeflectionLimit, 9)
    ∷ (LongCounter, 12) ∷ (ReducedCounter, 11) ∷ []

abbrev pub table : List Row
table =
    -- singles: serial/parallel, relay, stepping and limit of each supply, IEL clock, IEL enable, head mask
    row (send 0x2B01 ∷ []) ((Parallel, 1) ∷ []) ((0, (1, 0x40)) ∷ [])
    ∷ row (send 0x0802 ∷ []) ((Relay, 1) ∷ []) ((0, (2, 0x40)) ∷ [])
    ∷ row (send 0x2D01 ∷ []) ((StopStepping, 1) ∷ []) ((0, (37, 0x10)) ∷ [])
    ∷ row (send 0x290A ∷ []) ((StopLimit, 10) ∷ []) ((2, (37, 0xA0)) ∷ [])
    ∷ row (send 0x2C01 ∷ []) ((StartStepping, 1) ∷ []) ((0, (37, 0x20)) ∷ [])
    ∷ row (send 0x2109 ∷ []) ((StartLimit, 9) ∷ []) ((2, (37, 0x09)) ∷ [])
    ∷ row (send 0x2201 ∷ []) ((DeflectionStepping, 1) ∷ []) ((0, (37, 0x40)) ∷ [])
    ∷ row (send 0x240B ∷ []) ((DeflectionLimit, 11) ∷ []) ((1, (37, 0xB0)) ∷ [])
    ∷ row (send 0x0C01 ∷ []) ((IelClock, 1) ∷ []) ((12, (39, 0x80)) ∷ [])
    ∷ row (send 0x0C02 ∷ []) ((IelEnable, 1) ∷ []) ((0, (19, 0x80)) ∷ [])
    ∷ row (send 0x2605 ∷ []) ((HeadMask, 5) ∷ []) ((31, (39, 0x50)) ∷ [])
    -- blocks, each with the spin that takes it to the register: each multiplexer alone, the direction and the energy window; the last check moves as well
    ∷ row (send 0x6002 ∷ send 0xA001 ∷ send 0xA000 ∷ send 0xE015 ∷ spin ∷ []) ((Multiplexer1, 1) ∷ (LastCheck, 0x15) ∷ one_spin) ((0, (6, 0x01)) ∷ (21, (39, 0x15)) ∷ [])
    ∷ row (send 0x6002 ∷ send 0xA008 ∷ send 0xA000 ∷ send 0xE0A8 ∷ spin ∷ []) ((Multiplexer2, 1) ∷ (LastCheck, 0xA8) ∷ one_spin) ((0, (6, 0x08)) ∷ (21, (39, 0xA8)) ∷ [])
    ∷ row (send 0x6002 ∷ send 0xA040 ∷ send 0xA000 ∷ send 0xE05B ∷ spin ∷ []) ((Multiplexer3, 1) ∷ (LastCheck, 0x5B) ∷ one_spin) ((0, (6, 0x40)) ∷ (21, (39, 0x5B)) ∷ [])
    ∷ row (direction_block ++ (spin ∷ [])) ((DirectionStart, 0x1E) ∷ (DirectionStop, 0x15) ∷ (LastCheck, 0xEA) ∷ one_spin) ((0, (8, 0x0A)) ∷ (0, (9, 0xF8)) ∷ [])
    ∷ row (energy_block ++ (spin ∷ [])) ((EnergyStart, 0x13) ∷ (EnergyStop, 0x1D) ∷ (LastCheck, 0x3B) ∷ one_spin) ((0, (9, 0x03)) ∷ (0, (10, 0xB3)) ∷ [])
    -- with no spin nothing of them shows but the last check; of two orders before a spin the later one does, and an order after it not yet
    ∷ row (direction_block ++ energy_block) ((LastCheck, 0x3B) ∷ []) ((0, (8, 0x00)) ∷ (0, (9, 0x00)) ∷ (0, (10, 0x00)) ∷ [])
    ∷ row (other_energy_block ++ energy_block ++ (spin ∷ other_energy_block)) ((EnergyStart, 0x13) ∷ (EnergyStop, 0x1D) ∷ (LastCheck, 0x15) ∷ one_spin) ((0, (9, 0x03)) ∷ (0, (10, 0xB3)) ∷ [])
    -- refusals: 0822 255 times, both relay bits; a stray end word
    ∷ row (replicate 255 (send 0x0822)) ((ErrorCode, 0x0B) ∷ (LastInvalidCode, 0x08) ∷ (InvalidCount, 255) ∷ []) ((0, (7, 0xB0)) ∷ (0, (16, 0x08)) ∷ (22, (39, 255)) ∷ [])
    ∷ row (send 0xFE00 ∷ []) ((ErrorCode, 0x0B) ∷ (LastInvalidCode, 0xFE) ∷ (InvalidCount, 1) ∷ []) ((0, (16, 0xFE)) ∷ [])
    -- the instructor's settings
    ∷ row (set (panel.Bias 0x9A) ∷ []) ((Bias, 0x9A) ∷ []) ((0, (36, 0x9A)) ∷ [])
    ∷ row (set (panel.Ground 0xD7) ∷ []) ((Ground, 0xD7) ∷ []) ((0, (38, 0xD7)) ∷ [])
    ∷ row (set (panel.FreeTime 0xF234) ∷ []) ((FreeTime, 0xF234) ∷ []) ((27, (39, 0xF2)) ∷ (28, (39, 0x34)) ∷ [])
    ∷ row (set (panel.Flap1 true) ∷ []) ((Flap1, 1) ∷ []) ((12, (39, 0x10)) ∷ [])
    ∷ row (set (panel.Flap2 true) ∷ []) ((Flap2, 1) ∷ []) ((12, (39, 0x20)) ∷ [])
    ∷ row (set (panel.Flap3 true) ∷ []) ((Flap3, 1) ∷ []) ((12, (39, 0x40)) ∷ [])
    -- spins; those that bring stop's level to its target, and start's and deflection's on the way
    ∷ row (replicate 300 spin) ((LongCounter, 300) ∷ (ReducedCounter, 43) ∷ []) ((0, (20, 43)) ∷ (1, (39, 0)) ∷ (2, (39, 1)) ∷ (3, (39, 44)) ∷ [])
    ∷ row (send 0x0802 ∷ send 0x2D01 ∷ send 0x290F ∷ send 0x280F ∷ replicate 15 spin) ((Relay, 1) ∷ (StopStepping, 1) ∷ (StopLimit, 15) ∷ (StopLevel, 15) ∷ (LongCounter, 15) ∷ (ReducedCounter, 14) ∷ []) ((2, (37, 0xF0)) ∷ (3, (37, 0xF0)) ∷ [])
    ∷ row (send 0x0802 ∷ send 0x2C01 ∷ send 0x210E ∷ send 0x200D ∷ replicate 9 spin) ((Relay, 1) ∷ (StartStepping, 1) ∷ (StartLimit, 14) ∷ (StartLevel, 9) ∷ (LongCounter, 9) ∷ (ReducedCounter, 8) ∷ []) ((2, (37, 0x0E)) ∷ (3, (37, 0x09)) ∷ [])
    ∷ row (send 0x0802 ∷ send 0x2201 ∷ send 0x240C ∷ send 0x2305 ∷ replicate 3 spin) ((Relay, 1) ∷ (DeflectionStepping, 1) ∷ (DeflectionLimit, 12) ∷ (DeflectionLevel, 3) ∷ (LongCounter, 3) ∷ (ReducedCounter, 2) ∷ []) ((1, (37, 0xC3)) ∷ [])
    -- all three at once, and then the relay off: the levels go to 0, limits and switches stay
    ∷ row all_up ((Relay, 1) ∷ (StopLevel, 12) ∷ (StartLevel, 11) ∷ (DeflectionLevel, 7) ∷ limits_and_switches) ((0, (37, 0x70)) ∷ (1, (37, 0x97)) ∷ (2, (37, 0xFC)) ∷ (3, (37, 0xCB)) ∷ [])
    ∷ row (all_up ++ (send 0x0820 ∷ [])) limits_and_switches ((0, (2, 0x00)) ∷ (0, (37, 0x70)) ∷ (1, (37, 0x90)) ∷ (2, (37, 0xFC)) ∷ (3, (37, 0x00)) ∷ [])
    ∷ []

-- at the start: all 0, but these three
abbrev pub at_start : List (Item × ℕ)
at_start = (LastInvalidCode, 0xFF) ∷ (HeadMask, 7) ∷ (ReducedCounter, 63) ∷ []

-- the value listed for an item, or else v; items are told by their place in the list of items
abbrev pub listed : List (Item × ℕ) → ℕ → ℕ → ℕ
listed [] v k = v
listed (x ∷ xs) v k = pick (eqb (row_of x.0) k) x.1 (listed xs v k)

abbrev pub starts : ℕ → ℕ
starts k = listed at_start 0 k

-- what a row says of an item
abbrev pub says : Row → ℕ → ℕ
says r k = listed r.moved (starts k) k

-- the rig after so many frames more are built
unfoldable pub after_frames : Machine → ℕ → Rig → Rig
after_frames m zero r = r
after_frames m (suc n) r = after_frames m n (m.sent r)

abbrev pub Bytes : Outfit → Rig → List (ℕ × (ℕ × ℕ)) → Type 0
Bytes o r [] = Unit {0}
Bytes o r (x ∷ xs) = (get_or (o.frame (after_frames o.rig x.0 r)) x.1.0 0 ≡ x.1.1) × Bytes o r xs

-- a row is true of a rig's functions, and of what is held of each item
pub record True (o : Outfit) (held : Rig → ℕ → ℕ) (r : Row) : Type 0 where
  pub items : (item : Item) → held (doing o.rig o.rig.start r.steps) (row_of item) ≡ says r (row_of item)
  pub frames : Bytes o (doing o.rig o.rig.start r.steps) r.bytes

abbrev pub Every : Outfit → (Rig → ℕ → ℕ) → List Row → Type 0
Every o held [] = Unit {0}
Every o held (r ∷ rs) = True o held r × Every o held rs

-- every row of the table is true
abbrev pub HeldTable : Outfit → (Rig → ℕ → ℕ) → Type 0
HeldTable o held = Every o held table

-- some row names the item; some row gives two items different values, of which one at least has moved
abbrev pub names : List (Item × ℕ) → ℕ → Bool
names [] k = false
names (x ∷ xs) k = eqb (row_of x.0) k || names xs k

abbrev pub stands : List Row → ℕ → Bool
stands [] k = false
stands (r ∷ rs) k = names r.moved k || stands rs k

abbrev pub parts : Row → ℕ → ℕ → Bool
parts r j k = not (eqb (says r j) (says r k)) && (not (eqb (says r j) (starts j)) || not (eqb (says r k) (starts k)))

abbrev pub apart : List Row → ℕ → ℕ → Bool
apart [] j k = false
apart (r ∷ rs) j k = parts r j k || apart rs j k

-- two items swapped, wherever they are held
abbrev pub swapped : ℕ → ℕ → ℕ → ℕ
swapped i j k = pick (eqb k i) j (pick (eqb k j) i k)

-- what the table leaves: every item stands in a row, any two are told apart, and no two can be swapped
pub record Settles : Type 0 where
  pub all : (item : Item) → stands table (row_of item) ≡ true
  pub any : (i j : Item) → (row_of i ≡ row_of j → ⊥) → apart table (row_of i) (row_of j) ≡ true
  pub no_swap : (o : Outfit) (held : Rig → ℕ → ℕ) (i j : Item) → (row_of i ≡ row_of j → ⊥)
      → HeldTable o held → HeldTable o (λ r k. held r (swapped (row_of i) (row_of j) k)) → ⊥
