-- When a setting shows in a frame: windows and multiplexers after a spin, all else in the next frame that carries it.
-- Keeps 01 "Command words" (accepted settings and the next frame) and 02 (ii), which takes the three blocks out of that sentence. Assumes nothing.
use Rattle.std.specs.Prelude.{◌≡◌, true, List, [], ◌∷◌, ◌++◌, ℕ, ◌+◌, ◌/◌, ◌%◌, ◌<◌, get_or, Some}
use Rattle.frame.specs.declared.Item.{Item}
use Rattle.frame.specs.declared.Item.TheVariants.{Parallel, Multiplexer1, Multiplexer2, Multiplexer3, ErrorCode, DirectionStop, DirectionStart, EnergyStop, EnergyStart, LastInvalidCode, IelEnable, ReducedCounter, Bias, Relay, Ground, StopStepping, StopLimit, StopLevel, Flap1, Flap2, Flap3, IelClock, LastCheck, InvalidCount, HeadMask, StartStepping, StartLimit, StartLevel, DeflectionStepping, DeflectionLimit, DeflectionLevel}
use Rattle.frame.specs.Items.{row_of}
use Rattle.frame.specs.Read.{is_plain, carries, read_of}
use Rattle.rig.specs.declared.Rig.{Rig}
use Rattle.sending.specs.Sending.{bit}
use Rattle.laws.specs.Ordered.{Order, multiplexers, direction, energy, pair_of, asked_by}
use Rattle.laws.specs.Runs.{Happening, word, spin, block, rig_reached, given}
use Rattle.laws.specs.Register.{orders, NoSpin, NoOrder}
use Rattle.demands.specs.Outfit.{Outfit}
use Rattle.demands.specs.Held.{names}

-- the items that the sensor's register shows, by the two numbers of each part: E multiplexers 1-3 are the bits 01, 08, 40 of the byte
abbrev pub of_sensor : Order → ℕ × ℕ → List (Item × ℕ)
of_sensor multiplexers x = (Multiplexer1, x.0 % 2) ∷ (Multiplexer2, x.0 / 0x08 % 2) ∷ (Multiplexer3, x.0 / 0x40 % 2) ∷ []
of_sensor direction x = (DirectionStart, x.0) ∷ (DirectionStop, x.1) ∷ []
of_sensor energy x = (EnergyStart, x.0) ∷ (EnergyStop, x.1) ∷ []

-- every other plain item, as the rig stands
abbrev pub at_once : Rig → List (Item × ℕ)
at_once r =
    let settings = r.core.settings in
    let stop = r.core.stop in
    let start = r.core.start in
    let deflection = r.core.deflection in
    (Parallel, bit settings.parallel)
    ∷ (IelClock, bit settings.iel.clock)
    ∷ (IelEnable, bit settings.iel.enable)
    ∷ (HeadMask, settings.mask)
    ∷ (Relay, bit stop.relay)
    ∷ (StopStepping, bit stop.stepping)
    ∷ (StopLimit, stop.limit)
    ∷ (StopLevel, stop.level)
    ∷ (StartStepping, bit start.stepping)
    ∷ (StartLimit, start.limit)
    ∷ (StartLevel, start.level)
    ∷ (DeflectionStepping, bit deflection.stepping)
    ∷ (DeflectionLimit, deflection.limit)
    ∷ (DeflectionLevel, deflection.level)
    ∷ (ErrorCode, r.faults.error)
    ∷ (LastInvalidCode, r.faults.last)
    ∷ (InvalidCount, r.faults.count)
    ∷ (LastCheck, r.check)
    ∷ (ReducedCounter, (r.edbs.0 + 63) % 64)
    ∷ (Bias, r.panel.bias)
    ∷ (Ground, r.panel.ground)
    ∷ (Flap1, bit r.panel.flap1)
    ∷ (Flap2, bit r.panel.flap2)
    ∷ (Flap3, bit r.panel.flap3)
    ∷ []

-- both together
abbrev pub both_lists : Rig → List (Item × ℕ)
both_lists r = at_once r ++ (of_sensor multiplexers (0, 0) ++ (of_sensor direction (0, 0) ++ of_sensor energy (0, 0)))

-- the next frame of the rig r is read so of an item; and it carries the item
abbrev pub Reads : Outfit → Rig → Item × ℕ → Type 0
Reads o r x = read_of (o.frame r) (row_of x.0) ≡ Some x.1

abbrev pub Carries : Rig → Item × ℕ → Type 0
Carries r x = carries (row_of x.0) r.sending.next ≡ true

abbrev pub Each : (Item × ℕ → Type 0) → List (Item × ℕ) → Type 0
Each P [] = Unit {0}
Each P (x ∷ xs) = P x × Each P xs

-- of any rig's functions, after any run
pub record ShownWhen (o : Outfit) : Type 0 where
  -- no plain item is forgotten
  pub all : (r : Rig) (item : Item) → is_plain (row_of item) ≡ true → names (both_lists r) (row_of item) ≡ true
  -- every item but those of the sensor shows in the next frame that carries it, as it then stands
  pub others : (es : List Happening) → let r = rig_reached o.rig es in Each (λ x. Carries r x → Reads o r x) (at_once r)
  -- Every frame built before the next spin or power cut shows what the register holds, whatever is ordered meanwhile.
  pub before : (es fs : List Happening) (p : Order) → NoSpin fs
      → Each (Reads o (rig_reached o.rig (es ++ fs))) (of_sensor p (pair_of p (rig_reached o.rig es).register))
  -- A word closes a block of which s are the data bytes, and the block is accepted; then come any happenings without a spin, a power cut or another accepted
  -- block of that code; one spin; and any without a spin or a power cut: the next frame, whichever it is, shows what those bytes ordered.
  pub after : (es : List Happening) (w : ℕ) (h : w < 0x10000) (p : Order) (head n : ℕ) (s : List ℕ) (fs gs : List Happening)
      → let r = rig_reached o.rig es in (given o.rig es).begun ≡ block head n s → orders o.rig p r w ≡ true
      → NoOrder o.rig p (o.rig.take r w).rig fs → NoSpin gs
      → Each (Reads o (rig_reached o.rig (es ++ (word w h ∷ (fs ++ (spin ∷ gs)))))) (of_sensor p (asked_by p (get_or s 0 0) (get_or s 1 0)))
