-- A record with one part replaced has that part, and every other part as it was: said part by part, apart from the definitions.
-- The rules of every command, spin, setting and frame are written with these. Assumes nothing.
use Rattle.std.specs.Prelude.{◌≡◌, Bool, ℕ, Option}
use Rattle.base.specs.declared.Spins.{Spins}
use Rattle.supply.specs.declared.Supply.{Supply}
use Rattle.judge.specs.declared.Mux.{Mux}
use Rattle.judge.specs.declared.Window.{Window}
use Rattle.judge.specs.declared.Sensor.{Sensor}
use Rattle.judge.specs.declared.Iel.{Iel}
use Rattle.judge.specs.declared.Settings.{Settings}
use Rattle.judge.specs.declared.Which.TheVariants.{Stop, Start, Deflection}
use Rattle.judge.specs.declared.Core.{Core}
use Rattle.judge.specs.Records.{with_supply, with_settings, with_parallel, with_mask, with_iel, with_sensor, with_mux, with_direction, with_energy}
use Rattle.rig.specs.declared.Faults.{Faults}
use Rattle.rig.specs.declared.Pending.{Pending}
use Rattle.rig.specs.declared.Panel.{Panel}
use Rattle.rig.specs.declared.Sending.{Sending}
use Rattle.rig.specs.declared.Rig.{Rig}
use Rattle.rig.specs.Records.{with_core, with_register, with_faults, with_pending, with_check, with_panel, with_sending, with_edbs, with_bias, with_ground, with_free, with_flap1, with_flap2, with_flap3}

-- the parts of each record
abbrev pub CoreIs : Core → Supply → Supply → Supply → Settings → Type 0
CoreIs c stop start deflection settings = (c.stop ≡ stop) × (c.start ≡ start) × (c.deflection ≡ deflection) × (c.settings ≡ settings)

abbrev pub SettingsAre : Settings → Bool → ℕ → Iel → Sensor → Type 0
SettingsAre s parallel mask iel sensor = (s.parallel ≡ parallel) × (s.mask ≡ mask) × (s.iel ≡ iel) × (s.sensor ≡ sensor)

abbrev pub SensorIs : Sensor → Mux → Window → Window → Type 0
SensorIs s mux direction energy = (s.mux ≡ mux) × (s.direction ≡ direction) × (s.energy ≡ energy)

abbrev pub RigIs : Rig → Core → Sensor → Faults → Option Pending → ℕ → Panel → Sending → Spins → Type 0
RigIs r core register faults pending check panel sending edbs =
    (r.core ≡ core) × (r.register ≡ register) × (r.faults ≡ faults) × (r.pending ≡ pending) × (r.check ≡ check) × (r.panel ≡ panel) × (r.sending ≡ sending) × (r.edbs ≡ edbs)

abbrev pub PanelIs : Panel → ℕ → ℕ → ℕ → Bool → Bool → Bool → Type 0
PanelIs p bias ground free flap1 flap2 flap3 =
    (p.bias ≡ bias) × (p.ground ≡ ground) × (p.free ≡ free) × (p.flap1 ≡ flap1) × (p.flap2 ≡ flap2) × (p.flap3 ≡ flap3)

pub record Parts : Type 0 where
  pub stop : (c : Core) (x : Supply) → CoreIs (with_supply c Stop x) x c.start c.deflection c.settings
  pub start : (c : Core) (x : Supply) → CoreIs (with_supply c Start x) c.stop x c.deflection c.settings
  pub deflection : (c : Core) (x : Supply) → CoreIs (with_supply c Deflection x) c.stop c.start x c.settings
  pub settings : (c : Core) (x : Settings) → CoreIs (with_settings c x) c.stop c.start c.deflection x
  pub parallel : (s : Settings) (x : Bool) → SettingsAre (with_parallel s x) x s.mask s.iel s.sensor
  pub mask : (s : Settings) (x : ℕ) → SettingsAre (with_mask s x) s.parallel x s.iel s.sensor
  pub iel : (s : Settings) (x : Iel) → SettingsAre (with_iel s x) s.parallel s.mask x s.sensor
  pub sensor : (s : Settings) (x : Sensor) → SettingsAre (with_sensor s x) s.parallel s.mask s.iel x
  pub mux : (s : Sensor) (x : Mux) → SensorIs (with_mux s x) x s.direction s.energy
  pub direction : (s : Sensor) (x : Window) → SensorIs (with_direction s x) s.mux x s.energy
  pub energy : (s : Sensor) (x : Window) → SensorIs (with_energy s x) s.mux s.direction x
  pub core : (r : Rig) (x : Core) → RigIs (with_core r x) x r.register r.faults r.pending r.check r.panel r.sending r.edbs
  pub register : (r : Rig) (x : Sensor) → RigIs (with_register r x) r.core x r.faults r.pending r.check r.panel r.sending r.edbs
  pub faults : (r : Rig) (x : Faults) → RigIs (with_faults r x) r.core r.register x r.pending r.check r.panel r.sending r.edbs
  pub pending : (r : Rig) (x : Option Pending) → RigIs (with_pending r x) r.core r.register r.faults x r.check r.panel r.sending r.edbs
  pub check : (r : Rig) (x : ℕ) → RigIs (with_check r x) r.core r.register r.faults r.pending x r.panel r.sending r.edbs
  pub panel : (r : Rig) (x : Panel) → RigIs (with_panel r x) r.core r.register r.faults r.pending r.check x r.sending r.edbs
  pub sending : (r : Rig) (x : Sending) → RigIs (with_sending r x) r.core r.register r.faults r.pending r.check r.panel x r.edbs
  pub edbs : (r : Rig) (x : Spins) → RigIs (with_edbs r x) r.core r.register r.faults r.pending r.check r.panel r.sending x
  pub bias : (p : Panel) (x : ℕ) → PanelIs (with_bias p x) x p.ground p.free p.flap1 p.flap2 p.flap3
  pub ground : (p : Panel) (x : ℕ) → PanelIs (with_ground p x) p.bias x p.free p.flap1 p.flap2 p.flap3
  pub free : (p : Panel) (x : ℕ) → PanelIs (with_free p x) p.bias p.ground x p.flap1 p.flap2 p.flap3
  pub flap1 : (p : Panel) (x : Bool) → PanelIs (with_flap1 p x) p.bias p.ground p.free x p.flap2 p.flap3
  pub flap2 : (p : Panel) (x : Bool) → PanelIs (with_flap2 p x) p.bias p.ground p.free p.flap1 x p.flap3
  pub flap3 : (p : Panel) (x : Bool) → PanelIs (with_flap3 p x) p.bias p.ground p.free p.flap1 p.flap2 x
