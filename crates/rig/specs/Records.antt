-- The rig with one part replaced and nothing else: one line for each field of the rig's record, and of the panel's.
-- No rule stands here: which part gets what is said where these are used. Assumes nothing.
use Rattle.std.specs.Prelude.{ℕ, Bool, Option}
use Rattle.base.specs.declared.Spins.{Spins}
use Rattle.judge.specs.declared.Core.{Core}
use Rattle.judge.specs.declared.Sensor.{Sensor}
use Rattle.rig.specs.declared.Faults.{Faults}
use Rattle.rig.specs.declared.Pending.{Pending}
use Rattle.rig.specs.declared.Panel.{Panel}
use Rattle.rig.specs.declared.Sending.{Sending}
use Rattle.rig.specs.declared.Rig.{Rig}

-- the rig
abbrev pub with_core : Rig → Core → Rig
with_core r x = record { core = x; register = r.register; faults = r.faults; pending = r.pending; check = r.check; panel = r.panel; sending = r.sending; edbs = r.edbs }

abbrev pub with_register : Rig → Sensor → Rig
with_register r x = record { core = r.core; register = x; faults = r.faults; pending = r.pending; check = r.check; panel = r.panel; sending = r.sending; edbs = r.edbs }

abbrev pub with_faults : Rig → Faults → Rig
with_faults r x = record { core = r.core; register = r.register; faults = x; pending = r.pending; check = r.check; panel = r.panel; sending = r.sending; edbs = r.edbs }

abbrev pub with_pending : Rig → Option Pending → Rig
with_pending r x = record { core = r.core; register = r.register; faults = r.faults; pending = x; check = r.check; panel = r.panel; sending = r.sending; edbs = r.edbs }

abbrev pub with_check : Rig → ℕ → Rig
with_check r x = record { core = r.core; register = r.register; faults = r.faults; pending = r.pending; check = x; panel = r.panel; sending = r.sending; edbs = r.edbs }

abbrev pub with_panel : Rig → Panel → Rig
with_panel r x = record { core = r.core; register = r.register; faults = r.faults; pending = r.pending; check = r.check; panel = x; sending = r.sending; edbs = r.edbs }

abbrev pub with_sending : Rig → Sending → Rig
with_sending r x = record { core = r.core; register = r.register; faults = r.faults; pending = r.pending; check = r.check; panel = r.panel; sending = x; edbs = r.edbs }

abbrev pub with_edbs : Rig → Spins → Rig
with_edbs r x = record { core = r.core; register = r.register; faults = r.faults; pending = r.pending; check = r.check; panel = r.panel; sending = r.sending; edbs = x }

-- the panel
abbrev pub with_bias : Panel → ℕ → Panel
with_bias p x = record { bias = x; ground = p.ground; free = p.free; flap1 = p.flap1; flap2 = p.flap2; flap3 = p.flap3 }

abbrev pub with_ground : Panel → (ground : ℕ) → Panel
with_ground p x = record { bias = p.bias; ground = x; free = p.free; flap1 = p.flap1; flap2 = p.flap2; flap3 = p.flap3 }

abbrev pub with_free : Panel → ℕ → Panel
with_free p x = record { bias = p.bias; ground = p.ground; free = x; flap1 = p.flap1; flap2 = p.flap2; flap3 = p.flap3 }

abbrev pub with_flap1 : Panel → Bool → Panel
with_flap1 p x = record { bias = p.bias; ground = p.ground; free = p.free; flap1 = x; flap2 = p.flap2; flap3 = p.flap3 }

abbrev pub with_flap2 : Panel → Bool → Panel
with_flap2 p x = record { bias = p.bias; ground = p.ground; free = p.free; flap1 = p.flap1; flap2 = x; flap3 = p.flap3 }

abbrev pub with_flap3 : Panel → Bool → Panel
with_flap3 p x = record { bias = p.bias; ground = p.ground; free = p.free; flap1 = p.flap1; flap2 = p.flap2; flap3 = x }
