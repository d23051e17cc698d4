-- The sensor's register: what moves it, and when an accepted block has reached it. For every rig, also those that no run reaches.
-- Keeps 02 (ii): a command sets what was ordered, a spin copies it into the register, a power cut clears both. Assumes nothing.
use Rattle.std.specs.Prelude.{◌≡◌, Bool, true, false, ◌&&◌, List, [], ◌∷◌, ◌++◌, ℕ, ◌<◌}
use Rattle.base.specs.Pick.{pick}
use Rattle.judge.specs.declared.Sensor.{Sensor}
use Rattle.rig.specs.declared.Rig.{Rig}
use Rattle.laws.specs.Ordered.{Order, pair_of, is_of, asked_in, is_accepted}
use Rattle.laws.specs.Replies.{closing}
use Rattle.laws.specs.Runs.{Happening, word, spin, set, cut, frame, Machine, happened, rig_after}

-- what was ordered of the sensor
abbrev pub ordered_in : Rig → Sensor
ordered_in r = r.core.settings.sensor

-- nothing ordered: nine multiplexer bits and two windows, all 0
abbrev pub clear : Sensor
clear =
    record {
      mux = record { byte = 0; bit = false };
      direction = record { start = 0; stop = 0 };
      energy = record { start = 0; stop = 0 };
    }

-- does the word w order this: does it close a block that is accepted, and of that code?
abbrev pub orders : Machine → Order → Rig → ℕ → Bool
orders m p r w = closing r w && (is_accepted (m.take r w).reply && is_of p r.pending)

-- neither a spin nor a power cut
abbrev pub Unspun : Happening → Type 0
Unspun (word w h) = Unit {0}
Unspun spin = ⊥
Unspun (set s h) = Unit {0}
Unspun cut = ⊥
Unspun frame = Unit {0}

-- no accepted block of that code
abbrev pub Unordered : Machine → Order → Rig → Happening → Type 0
Unordered m p r (word w h) = orders m p r w ≡ false
Unordered m p r spin = Unit {0}
Unordered m p r (set s h) = Unit {0}
Unordered m p r cut = Unit {0}
Unordered m p r frame = Unit {0}

-- happenings with no spin and no power cut among them
abbrev pub NoSpin : List Happening → Type 0
NoSpin [] = Unit {0}
NoSpin (e ∷ es) = Unspun e × NoSpin es

-- nor an accepted block of that code
abbrev pub NoOrder : Machine → Order → Rig → List Happening → Type 0
NoOrder m p r [] = Unit {0}
NoOrder m p r (e ∷ es) = Unspun e × Unordered m p r e × NoOrder m p (happened m r e) es

-- what a rig's functions do to what was ordered and to the register
pub record RegisterLaws (m : Machine) : Type 0 where
  -- no word, whatever its answer, no setting and no frame moves the register
  pub still : (r : Rig) (e : Happening) → Unspun e → (happened m r e).register ≡ r.register
  -- so every frame built before the next spin or power cut shows what the register holds now
  pub before : (r : Rig) (es : List Happening) → NoSpin es → (rig_after m r es).register ≡ r.register
  -- every spin copies all that was ordered, whatever relay, stepping or pending block, and leaves it ordered
  pub copied : (r : Rig) → ((m.spin r).register ≡ ordered_in r) × (ordered_in (m.spin r) ≡ ordered_in r)
  -- a power cut clears both, and at the start both are clear
  pub cleared : (r : Rig) → ((m.cut r).register ≡ clear) × (ordered_in (m.cut r) ≡ clear)
  pub start : (m.start.register ≡ clear) × (ordered_in m.start ≡ clear)
  -- an accepted block orders its part by its two data bytes; no other word orders anything: not a block that waits, is refused or dropped, nor a single
  pub ordered : (r : Rig) (w : ℕ) (p : Order)
      → pair_of p (ordered_in (m.take r w).rig) ≡ pick (orders m p r w) (asked_in p r.pending) (pair_of p (ordered_in r))
  -- an accepted block, anything without a spin, a power cut or another accepted block of that code, one spin, and anything without a spin or a power cut:
  -- the register has what the block ordered. So of several orders before one spin the last counts.
  pub reaches : (r : Rig) (w : ℕ) (h : w < 0x10000) (p : Order) (fs gs : List Happening) → orders m p r w ≡ true
      → NoOrder m p (m.take r w).rig fs → NoSpin gs
      → pair_of p (rig_after m r (word w h ∷ (fs ++ (spin ∷ gs)))).register ≡ asked_in p r.pending
