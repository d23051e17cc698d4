-- What the rig shows in a frame, and what building one does to it (01, "The 40-byte frame"; 02 (ii) and (iv)). Rig and frame meet here alone.
-- Assumes nothing.
use Rattle.std.specs.Prelude.{ℕ, ◌+◌, ◌/◌, ◌%◌, Bool, List, Ok, Err}
use Rattle.base.specs.Pick.{pick}
use Rattle.frame.specs.declared.Held.{Held}
use Rattle.frame.specs.Shapes.{Wrote}
use Rattle.frame.specs.Write.{frame_of, latch_of, wrote_of, written}
use Rattle.rig.specs.declared.Rig.{Rig}
use Rattle.rig.specs.Records.{with_sending}
use Rattle.sending.specs.declared.Built.{Built}

-- a switch is 1 or 0
abbrev pub bit : Bool → ℕ
bit b = pick b 1 0

-- What the rig holds of each item. Windows and multiplexers are those of the sensor's register, not what was ordered; E multiplexers 1-3 are the bits
-- 01, 08, 40 of byte 1 of block 20h. The reduced number is the EDB counter minus 1, modulo 64. The relay is common: stop's record tells it.
abbrev pub held_of : Rig → Held
held_of r =
    let settings = r.core.settings in
    let sensor = r.register in
    let stop = r.core.stop in
    let start = r.core.start in
    let deflection = r.core.deflection in
    let ground : ℕ = r.panel.ground in
    record {
      parallel = bit settings.parallel;
      mux1 = sensor.mux.byte % 2;
      mux2 = sensor.mux.byte / 0x08 % 2;
      mux3 = sensor.mux.byte / 0x40 % 2;
      error = r.faults.error;
      dstop = sensor.direction.stop;
      dstart = sensor.direction.start;
      estop = sensor.energy.stop;
      estart = sensor.energy.start;
      last = r.faults.last;
      enable = bit settings.iel.enable;
      reduced = (r.edbs.0 + 63) % 64;
      bias = r.panel.bias;
      relay = bit stop.relay;
      ground = ground;
      stopstepping = bit stop.stepping;
      stoplimit = stop.limit;
      stoplevel = stop.level;
      flap1 = bit r.panel.flap1;
      flap2 = bit r.panel.flap2;
      flap3 = bit r.panel.flap3;
      clock = bit settings.iel.clock;
      check = r.check;
      count = r.faults.count;
      mask = settings.mask;
      long = r.edbs.0;
      free = r.panel.free;
      startstepping = bit start.stepping;
      startlimit = start.limit;
      startlevel = start.level;
      deflectionstepping = bit deflection.stepping;
      deflectionlimit = deflection.limit;
      deflectionlevel = deflection.level;
    }

-- the number that is latched as the next frame is built
abbrev pub next_latch : Rig → ℕ
next_latch r = latch_of (held_of r) r.sending.next r.sending.latch

-- the 40 bytes of the rig's next frame
abbrev pub next_frame : Rig → List ℕ
next_frame r = frame_of (held_of r) r.sending.next (next_latch r)

-- A frame built: the index rises modulo 32, and the latch stands. On 18 nothing changes: nothing is latched, no frame is used up.
abbrev pub sent_with : Wrote → Rig → ℕ → Rig
sent_with (Ok tt) r latch = with_sending r (record { next = (r.sending.next + 1) % 32; latch = latch })
sent_with (Err why) r latch = r

-- the rig that has built its next frame
abbrev pub sent : Rig → Rig
sent r = sent_with (Ok tt) r (next_latch r)

-- the rig, and whether there was room, where a frame was to be built at a place of the buffer b; and what the buffer then holds
abbrev pub built_of : Rig → List ℕ → ℕ → Built
built_of r b at = record { rig = sent_with (wrote_of at b) r (next_latch r); wrote = wrote_of at b }

abbrev pub filled_of : Rig → List ℕ → ℕ → List ℕ
filled_of r b at = written (held_of r) r.sending.next (next_latch r) at b
