-- What the settings of a command come to by 01's table ("Command words"; 02 (iv), start and deflection as stop): said of the settings, with no low byte
-- and no bit in it; x is the supply that the command is for.
-- Assumes nothing.
use Rattle.std.specs.Prelude.{ℕ, min, Bool, true, false, not, ◌&&◌, eqb, ltb, Ok, Err}
use Rattle.base.specs.Pick.{pick}
use Rattle.judge.specs.declared.Which.{Which}
use Rattle.judge.specs.declared.Core.{Core}
use Rattle.judge.specs.declared.Sensor.{Sensor}
use Rattle.judge.specs.Shapes.{Verdict}
use Rattle.judge.specs.declared.Refusal.TheVariants.{RelayOff, Disabled, OverLimit, RelayBits, Unsettled, OutOfRange}
use Rattle.judge.specs.Records.{supply_at, with_supply, with_settings, with_parallel, with_mask, with_iel, with_sensor, with_mux, with_direction, with_energy}
use Rattle.supply.specs.When.{relay_set}
use Rattle.supply.specs.Rules.{with_stepping, with_target, with_limit}
use Rattle.wording.specs.declared.Command.{Command}
use Rattle.wording.specs.declared.Command.TheVariants.{Relay, Iel, HeadMask, Target, Limit, Mode, Stepping, Multiplexers, DirectionWindow, EnergyWindow}

-- a setting of one bit: 1 is set
abbrev pub set : ℕ → Bool
set x = eqb x 1

-- 08h: on and not off, off and not on; both or neither: 0Bh. The relay is common to the three
abbrev pub relay_told : Core → Bool → Core
relay_told c on =
    record { stop = relay_set c.stop on; start = relay_set c.start on; deflection = relay_set c.deflection on; settings = c.settings }

abbrev pub relay_judged : Core → Bool → Bool → Verdict
relay_judged c on off =
    pick (on && not off) (Ok (relay_told c true)) (
    pick (off && not on) (Ok (relay_told c false)) (
    Err RelayBits))

-- 28h, 20h, 23h: relay off 04h, stepping disabled 05h, target > limit 06h
abbrev pub target_judged : Core → Which → ℕ → Verdict
target_judged c x target =
    let s = supply_at c x in
    pick (not s.relay) (Err RelayOff) (
    pick (not s.stepping) (Err Disabled) (
    pick (ltb s.limit target) (Err OverLimit) (
    Ok (with_supply c x (with_target s target)))))

-- 29h, 21h, 24h: level ≠ target 0Ch, limit > 15 0Dh; the target becomes the smaller of target and limit
abbrev pub limit_judged : Core → Which → ℕ → Verdict
limit_judged c x limit =
    let s = supply_at c x in
    pick (not (eqb s.level s.target)) (Err Unsettled) (
    pick (ltb 15 limit) (Err OutOfRange) (
    Ok (with_supply c x (with_target (with_limit s limit) (min s.target limit)))))

-- 2Bh, and 2Dh, 2Ch, 22h: 0 is off, 1 is on; other 0Dh
abbrev pub switch_judged : ℕ → (Bool → Core) → Verdict
switch_judged low to = pick (eqb low 0) (Ok (to false)) (pick (eqb low 1) (Ok (to true)) (Err OutOfRange))

-- the three blocks: what the sensor is told
abbrev pub sensor_judged : Core → Sensor → Verdict
sensor_judged c x = Ok (with_settings c (with_sensor c.settings x))

abbrev pub judged_of : Core → Command → Verdict
judged_of c (Relay on off) = relay_judged c (set on) (set off)
judged_of c (Iel clock enable) = Ok (with_settings c (with_iel c.settings (record { clock = set clock; enable = set enable })))
judged_of c (HeadMask mask) = Ok (with_settings c (with_mask c.settings mask))
judged_of c (Target x target) = target_judged c x target
judged_of c (Limit x limit) = limit_judged c x limit
judged_of c (Mode low) = switch_judged low (λ on. with_settings c (with_parallel c.settings on))
judged_of c (Stepping x low) = switch_judged low (λ on. with_supply c x (with_stepping (supply_at c x) on))
judged_of c (Multiplexers byte bit) = sensor_judged c (with_mux c.settings.sensor (record { byte = byte; bit = set bit }))
judged_of c (DirectionWindow start stop) = sensor_judged c (with_direction c.settings.sensor (record { start = start; stop = stop }))
judged_of c (EnergyWindow start stop) = sensor_judged c (with_energy c.settings.sensor (record { start = start; stop = stop }))
