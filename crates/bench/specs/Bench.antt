-- A rig and a desk together, and what happens to the rig alone, by its own rule.
-- Keeps 01 whole; the rules are those of `rig` and `power`. Assumes nothing.
use Rattle.std.specs.Prelude.{ℕ}
use Rattle.desk.specs.declared.Desk.{Desk}
use Rattle.desk.specs.Desk.{fresh_desk}
use Rattle.power.specs.declared.PanelSetting.{PanelSetting}
use Rattle.rig.specs.declared.Rig.{Rig}
use Rattle.rig.specs.Words.{take_of}
use Rattle.rig.specs.Start.{start_rig}
use Rattle.power.specs.Power.{spun_of, set_of, cut_of}
use Rattle.bench.specs.declared.Bench.{Bench}
use Rattle.bench.specs.declared.Worded.{Worded}

-- fresh rig, fresh desk: the rig's start as 01 lists it, and every item unknown
abbrev pub fresh_bench : Bench
fresh_bench = record { rig = start_rig; desk = fresh_desk }

-- the bench with another rig: what happens to the rig alone, the desk hears nothing of
abbrev pub with_rig : Bench → Rig → Bench
with_rig b r = record { rig = r; desk = b.desk }

-- the bench with another desk: what the desk hears leaves the rig as it is
abbrev pub with_desk : Bench → Desk → Bench
with_desk b d = record { rig = b.rig; desk = d }

-- a command word: the rig takes it, and its sender hears the reply
abbrev pub worded_of : Bench → ℕ → Worded
worded_of b w = record { bench = with_rig b (take_of b.rig w).rig; reply = (take_of b.rig w).reply }

-- a spin
abbrev pub spun_bench : Bench → Bench
spun_bench b = with_rig b (spun_of b.rig)

-- a setting by the instructor
abbrev pub set_bench : Bench → PanelSetting → Bench
set_bench b s = with_rig b (set_of b.rig s)

-- a power cut: the desk hears nothing and keeps what it shows
abbrev pub cut_bench : Bench → Bench
cut_bench b = with_rig b (cut_of b.rig)
