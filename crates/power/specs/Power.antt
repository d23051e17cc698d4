-- Spins, power cuts and the instructor's settings (01, "Spins and power"; 02 (ii), the register; 02 (iv), three supplies).
-- Assumes nothing.
use Rattle.base.specs.Counts.{spin_more}
use Rattle.supply.specs.Rules.{stepped}
use Rattle.judge.specs.declared.Core.{Core}
use Rattle.rig.specs.declared.Panel.{Panel}
use Rattle.rig.specs.declared.Rig.{Rig}
use Rattle.rig.specs.Records.{with_core, with_register, with_panel, with_edbs, with_bias, with_ground, with_free, with_flap1, with_flap2, with_flap3}
use Rattle.rig.specs.Start.{start_rig}
use Rattle.power.specs.declared.PanelSetting.{PanelSetting}
use Rattle.power.specs.declared.PanelSetting.TheVariants.{Bias, Ground, FreeTime, Flap1, Flap2, Flap3}

-- At a spin, of each supply, if relay and its stepping are on, the level goes one towards the target;
abbrev pub stepped_all : Core → Core
stepped_all c = record { stop = stepped c.stop; start = stepped c.start; deflection = stepped c.deflection; settings = c.settings }

-- what was ordered of the sensor is copied into its register, whatever else holds; the long EDB counter adds one, modulo 2^32.
abbrev pub spun_of : Rig → Rig
spun_of r = with_edbs (with_register (with_core r (stepped_all r.core)) r.core.settings.sensor) (spin_more r.edbs)

-- Power cut: the rig returns to its start, what was ordered and the register too; a pending block is forgotten unrefused.
abbrev pub cut_of : Rig → Rig
cut_of r = start_rig

-- Settings by the instructor: bias and ground bytes, free time, flaps 1 to 3.
abbrev pub panel_of : Panel → PanelSetting → Panel
panel_of p (Bias b) = with_bias p b
panel_of p (Ground b) = with_ground p b
panel_of p (FreeTime t) = with_free p t
panel_of p (Flap1 b) = with_flap1 p b
panel_of p (Flap2 b) = with_flap2 p b
panel_of p (Flap3 b) = with_flap3 p b

unfoldable pub set_of : Rig → PanelSetting → Rig
set_of r s = with_panel r (panel_of r.panel s)
