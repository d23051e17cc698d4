-- What each command of the table does to the rig's core, and when it is refused (01, "Command words"; 02 (iv), start and deflection as stop). The
-- low byte is `low`; a block's two bytes are `first` and `second`; x is the supply that the command is for. Bits not named are ignored.
-- Assumes nothing.
use Rattle.std.specs.Prelude.{ℕ, ◌/◌, ◌%◌, Bool, true, false, eqb, Ok, Err}
use Rattle.base.specs.Pick.{pick}
use Rattle.supply.specs.Rules.{relay_of, relayed, targeted, limited, switched}
use Rattle.supply.specs.Shapes.{Change}
use Rattle.supply.specs.Shapes.{RelayWord}
use Rattle.judge.specs.declared.Mux.{Mux}
use Rattle.judge.specs.declared.Window.{Window}
use Rattle.judge.specs.declared.Sensor.{Sensor}
use Rattle.judge.specs.declared.Which.{Which}
use Rattle.judge.specs.declared.Which.TheVariants.{Stop, Start, Deflection}
use Rattle.judge.specs.declared.Core.{Core}
use Rattle.judge.specs.Shapes.{Verdict}
use Rattle.judge.specs.declared.Refusal.TheVariants.{OutOfRange, WrongCount, UnknownCode}
use Rattle.judge.specs.Refusals.{raised}
use Rattle.judge.specs.Records.{supply_at, with_supply, with_settings, with_parallel, with_mask, with_iel, with_sensor, with_mux, with_direction, with_energy}

-- what the supply answers is the verdict
unfoldable pub carried : Core → Which → Change → Verdict
carried c x (Ok s) = Ok (with_supply c x s)
carried c x (Err why) = Err (raised why)

-- single 08h relay: bit 1 on, bit 5 off; both or neither: 0Bh. It is common: off sets level and target of all three to 0
abbrev pub relay_to : Core → Bool → Core
relay_to c on = record { stop = relayed c.stop on; start = relayed c.start on; deflection = relayed c.deflection on; settings = c.settings }

abbrev pub ordered : Core → RelayWord → Verdict
ordered c (Ok on) = Ok (relay_to c on)
ordered c (Err why) = Err (raised why)

abbrev pub relay_cmd : Core → ℕ → Verdict
relay_cmd c low = ordered c (relay_of low)

-- single 0Ch: bit 0 IEL clock, bit 1 IEL enable
abbrev pub iel_cmd : Core → ℕ → Verdict
iel_cmd c low = Ok (with_settings c (with_iel c.settings (record { clock = eqb (low % 2) 1; enable = eqb (low / 2 % 2) 1 })))

-- single 26h: bits 2-0 head mask
abbrev pub mask_cmd : Core → ℕ → Verdict
mask_cmd c low = Ok (with_settings c (with_mask c.settings (low % 8)))

-- singles 28h stop, 20h start, 23h deflection: bits 3-0 new target; relay off 04h, stepping disabled 05h, target > limit 06h
abbrev pub target_cmd : Which → Core → ℕ → Verdict
target_cmd x c low = carried c x (targeted (supply_at c x) low)

-- singles 29h stop, 21h start, 24h deflection: bits 3-0 new limit; level ≠ target 0Ch, limit > 15 0Dh. Target becomes the smaller of target and limit
abbrev pub limit_cmd : Which → Core → ℕ → Verdict
limit_cmd x c low = carried c x (limited (supply_at c x) low)

-- single 2Bh: 0 serial, 1 parallel; other 0Dh
abbrev pub mode_set : Core → Bool → Verdict
mode_set c b = Ok (with_settings c (with_parallel c.settings b))

unfoldable pub mode_cmd : Core → ℕ → Verdict
mode_cmd c low = pick (eqb low 0) (mode_set c false) (pick (eqb low 1) (mode_set c true) (Err OutOfRange))

-- singles 2Dh stop, 2Ch start, 22h deflection: stepping 0 off, 1 on; other 0Dh
abbrev pub stepping_cmd : Which → Core → ℕ → Verdict
stepping_cmd x c low = carried c x (switched (supply_at c x) low)

-- the singles; an unknown single is 0Fh
unfoldable pub single_of : Core → ℕ → ℕ → Verdict
single_of c code low =
    pick (eqb code 0x08) (relay_cmd c low) (
    pick (eqb code 0x0C) (iel_cmd c low) (
    pick (eqb code 0x20) (target_cmd Start c low) (
    pick (eqb code 0x21) (limit_cmd Start c low) (
    pick (eqb code 0x22) (stepping_cmd Deflection c low) (
    pick (eqb code 0x23) (target_cmd Deflection c low) (
    pick (eqb code 0x24) (limit_cmd Deflection c low) (
    pick (eqb code 0x26) (mask_cmd c low) (
    pick (eqb code 0x28) (target_cmd Stop c low) (
    pick (eqb code 0x29) (limit_cmd Stop c low) (
    pick (eqb code 0x2B) (mode_cmd c low) (
    pick (eqb code 0x2C) (stepping_cmd Start c low) (
    pick (eqb code 0x2D) (stepping_cmd Stop c low) (
    Err UnknownCode)))))))))))))

-- multiplexer word: byte 1, then bit 0 of byte 2
abbrev pub mux_word : ℕ → ℕ → Mux
mux_word first second = record { byte = first; bit = eqb (second % 2) 1 }

-- a window: start, stop: bits 4-0 of each
abbrev pub window_of : ℕ → ℕ → Window
window_of first second = record { start = first % 32; stop = second % 32 }

-- n wrong for that code 0Eh (it is 2 for each); apply
unfoldable pub counted_of : ℕ → Core → Sensor → Verdict
counted_of n c x = pick (eqb n 2) (Ok (with_settings c (with_sensor c.settings x))) (Err WrongCount)

-- block 20h: multiplexer word
abbrev pub mux_cmd : Core → ℕ → ℕ → ℕ → Verdict
mux_cmd c n first second = counted_of n c (with_mux c.settings.sensor (mux_word first second))

-- block 23h: direction window
abbrev pub direction_cmd : Core → ℕ → ℕ → ℕ → Verdict
direction_cmd c n first second = counted_of n c (with_direction c.settings.sensor (window_of first second))

-- block 24h: energy window, likewise
abbrev pub energy_cmd : Core → ℕ → ℕ → ℕ → Verdict
energy_cmd c n first second = counted_of n c (with_energy c.settings.sensor (window_of first second))

-- a closed block whose check is right: code unknown 0Fh; n wrong for that code 0Eh; apply
unfoldable pub block_of : Core → ℕ → ℕ → ℕ → ℕ → Verdict
block_of c code n first second =
    pick (eqb code 0x20) (mux_cmd c n first second) (
    pick (eqb code 0x23) (direction_cmd c n first second) (
    pick (eqb code 0x24) (energy_cmd c n first second) (
    Err UnknownCode)))
