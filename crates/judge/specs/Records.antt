-- What commands move, with one part replaced and nothing else: one line for each field of the core, of the settings and of the sensor's record.
-- No rule stands here: which part gets what is said where these are used. Assumes nothing.
use Rattle.std.specs.Prelude.{ℕ, Bool}
use Rattle.supply.specs.declared.Supply.{Supply}
use Rattle.judge.specs.declared.Mux.{Mux}
use Rattle.judge.specs.declared.Window.{Window}
use Rattle.judge.specs.declared.Sensor.{Sensor}
use Rattle.judge.specs.declared.Iel.{Iel}
use Rattle.judge.specs.declared.Settings.{Settings}
use Rattle.judge.specs.declared.Which.{Which}
use Rattle.judge.specs.declared.Which.TheVariants.{Stop, Start, Deflection}
use Rattle.judge.specs.declared.Core.{Core}

-- the core
abbrev pub with_settings : Core → Settings → Core
with_settings c x = record { stop = c.stop; start = c.start; deflection = c.deflection; settings = x }

-- the supply that is asked for, and the core with another in its place
abbrev pub supply_at : Core → Which → Supply
supply_at c Stop = c.stop
supply_at c Start = c.start
supply_at c Deflection = c.deflection

abbrev pub with_supply : Core → Which → Supply → Core
with_supply c Stop s = record { stop = s; start = c.start; deflection = c.deflection; settings = c.settings }
with_supply c Start s = record { stop = c.stop; start = s; deflection = c.deflection; settings = c.settings }
with_supply c Deflection s = record { stop = c.stop; start = c.start; deflection = s; settings = c.settings }

-- the settings
abbrev pub with_parallel : Settings → Bool → Settings
with_parallel s x = record { parallel = x; mask = s.mask; iel = s.iel; sensor = s.sensor }

abbrev pub with_mask : Settings → ℕ → Settings
with_mask s x = record { parallel = s.parallel; mask = x; iel = s.iel; sensor = s.sensor }

abbrev pub with_iel : Settings → Iel → Settings
with_iel s x = record { parallel = s.parallel; mask = s.mask; iel = x; sensor = s.sensor }

abbrev pub with_sensor : Settings → Sensor → Settings
with_sensor s x = record { parallel = s.parallel; mask = s.mask; iel = s.iel; sensor = x }

-- what the three blocks set
abbrev pub with_mux : Sensor → Mux → Sensor
with_mux s x = record { mux = x; direction = s.direction; energy = s.energy }

abbrev pub with_direction : Sensor → Window → Sensor
with_direction s x = record { mux = s.mux; direction = x; energy = s.energy }

abbrev pub with_energy : Sensor → Window → Sensor
with_energy s x = record { mux = s.mux; direction = s.direction; energy = x }
