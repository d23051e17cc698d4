-- The start, to which a power cut returns (01, "Spins and power"; 02 (ii), the register; 02 (iv), three supplies).
-- Assumes nothing.
use Rattle.std.specs.Prelude.{ℕ, Bool, false}
use Rattle.base.specs.Counts.{spins}
use Rattle.supply.specs.declared.Supply.{Supply}
use Rattle.judge.specs.declared.Core.{Core}
use Rattle.judge.specs.declared.Sensor.{Sensor}
use Rattle.rig.specs.declared.Panel.{Panel}
use Rattle.rig.specs.declared.Rig.{Rig}
use Rattle.rig.specs.Words.{nothing_pending}

-- The start: relay and stepping off; level, target, limit, windows, multiplexers, error code, last check, invalid count, long EDB counter, readings,
-- free time, flaps 0; last invalid code FFh; head mask 7; serial; IEL off, slow; next frame 0; no block pending. Windows and multiplexers are 0 both as
-- ordered and in the sensor's register: a power cut clears both. Each of the three supplies starts so, its stepping off: the guide has a switch for each.
abbrev pub off_supply : Supply
off_supply = record { relay = false; stepping = false; level = 0; target = 0; limit = 0 }

abbrev pub clear_sensor : Sensor
clear_sensor =
    record {
      mux = record { byte = 0; bit = false };
      direction = record { start = 0; stop = 0 };
      energy = record { start = 0; stop = 0 };
    }

abbrev pub start_core : Core
start_core =
    record {
      stop = off_supply;
      start = off_supply;
      deflection = off_supply;
      settings = record {
        parallel = false;
        mask = 7;
        iel = record { clock = false; enable = false };
        sensor = clear_sensor;
      };
    }

-- a panel, by its two readings, its free time and its three flaps
abbrev pub new_panel : (bias : ℕ) (ground : ℕ) (free : ℕ) (flap1 flap2 flap3 : Bool) → Panel
new_panel bias ground free flap1 flap2 flap3 = record { bias = bias; ground = ground; free = free; flap1 = flap1; flap2 = flap2; flap3 = flap3 }

abbrev pub start_rig : Rig
start_rig =
    record {
      core = start_core;
      register = clear_sensor;
      faults = record { error = 0; last = 0xFF; count = 0 };
      pending = nothing_pending;
      check = 0;
      panel = new_panel 0 0 0 false false false;
      sending = record { next = 0; latch = 0 };
      edbs = spins 0;
    }
