-- Each fraud is caught: a rig by one word, a desk by one run after which it shows something else than ours.
-- Assumes nothing.
use Rattle.std.specs.Prelude.{Some, None}
use mathlib.Core.Path.{◌≡◌, refl, ◌∙◌, ap, subst}
use mathlib.Core.Bool.{true}
use mathlib.Core.List.{List, [], ◌∷◌, ◌++◌}
use Prim.Native.Nat.{ℕ, ◌%◌}
use native.Mathlib.Omega.{arith}
use lib.ListN.{get_or, replicate}
use Rattle.crc.specs.Crc.{shift, crc_from, crc_of}
use Rattle.judge.specs.declared.Which.TheVariants.{Stop, Deflection}
use Rattle.judge.specs.declared.Sensor.{Sensor}
use Rattle.judge.specs.Shapes.{Verdict}
use Rattle.judge.specs.declared.Refusal.TheVariants.{StrayWord}
use Rattle.judge.specs.Commands.{counted_of, block_of}
use Rattle.judge.specs.Records.{with_supply, with_settings, with_sensor, with_direction}
use Rattle.frame.specs.declared.Item.TheVariants.{Bias}
use Rattle.frame.specs.Shapes.{Reading}
use Rattle.frame.specs.Write.{quarter_of, ground_at, mux_of, frame_of}
use Rattle.frame.specs.Read.{all_are, arrived_of, is_plain, read_of}
use Rattle.desk.specs.declared.Answer.{Answer}
use Rattle.desk.specs.declared.Answer.TheVariants as desk
use Rattle.desk.specs.declared.Received.{Received}
use Rattle.cell.specs.Shapes.{Shown}
use Rattle.cells.specs.Cells.{cells_after}
use Rattle.desk.specs.Desk.{reading_of, half_after, fresh_desk, slot_of}
use Rattle.power.specs.declared.PanelSetting.TheVariants as panel
use Rattle.rig.specs.declared.Rig.{Rig}
use Rattle.rig.specs.declared.Answer.TheVariants.{Accepted, Refused}
use Rattle.rig.specs.declared.Reply.TheVariants.{Plain}
use Rattle.rig.specs.declared.Taken.{Taken}
use Rattle.rig.specs.Records.{with_core}
use Rattle.rig.specs.Words.{kind_of, refused_of, settled_of, head_of, fresh_of, verdict_of, closed_of, dropped_of, pending_of, take_with, take_of}
use Rattle.rig.specs.Start.{clear_sensor, start_core, start_rig}
use Rattle.power.specs.Power.{set_of}
use Rattle.laws.specs.Results.{outcome}
use Rattle.laws.specs.Rows.{RowLaws}
use Rattle.laws.specs.Ordered.{direction}
use Rattle.laws.specs.Runs as ran
use Rattle.demands.specs.Queue.{set, marked, Step, alone, built, came, idle, steps, Beat, build, hand, beats}
use Rattle.demands.specs.AnyDesk.{IsWhole}
use Rattle.demands.specs.Demand1.{Demand1For}
use Rattle.demands.specs.Demand2.{Demand2For}
use Rattle.demands.specs.Demand3.{Demand3For}
use Rattle.demands.specs.One.{rig_of}
use Rattle.demands.specs.Frauds.{Refusing, RefusesEverything, AnswersAlike, idler, blanker, hoarder, pretender, flatterer, uncounted, snob, hasty, relayed, Caught, undeflected, strict}
use Rattle.demands.proofs.One.{one_desk}

-- a head mask is accepted, and a stray data word refused
accepts : (take : Rig → ℕ → Taken) → RowLaws take → (take start_rig 0x2600).reply ≡ Plain Accepted
accepts take a =
    let x = a.mask26 start_rig 0 (omega arith) refl in
    ap (λ (t : Taken). t.reply) x.then ∙ ap (λ (v : Verdict). (outcome start_rig 0x26 v).reply) x.is

refuses : (take : Rig → ℕ → Taken) → RowLaws take → (take start_rig 0x8000).reply ≡ Plain (Refused StrayWord)
refuses take a = ap (λ (t : Taken). t.reply) (a.stray_data start_rig 0x8000 refl refl)

not_all : (take : Rig → ℕ → Taken) → RefusesEverything take → Demand2For (rig_of take) → ⊥
not_all take all d = subst Refusing (accepts take d.rows) (all start_rig 0x2600)

not_alike : (take : Rig → ℕ → Taken) → AnswersAlike take → Demand2For (rig_of take) → ⊥
not_alike take all d =
    let z : ◌≡◌ {A = ℕ} 0 1 = cc (all start_rig start_rig 0x2600 0x8000, accepts take d.rows, refuses take d.rows) in
    omega arith

abbrev sends : ℕ → ran.Happening
sends w = ran.word (w % 0x10000) (omega arith)

-- the value that a frame is read as
abbrev read_number : Reading → ℕ
read_number (Some v) = v
read_number None = 0

-- one refusal, and the made-up count is 0
not_uncounted : Demand2For (rig_of uncounted) → ⊥
unfolding ran.rig_after ran.ledger take_of take_with fresh_of settled_of refused_of kind_of
not_uncounted d =
    let e : ◌≡◌ {A = ℕ} 0 1 = d.runs.count (ran.word 0x8000 (omega arith) ∷ []) in
    omega arith

-- the block of a direction window from 1 to 1, and no spin: the next frame has it
abbrev ordered : List ran.Happening
ordered = sends 0x6302 ∷ sends 0xA301 ∷ sends 0xA301 ∷ sends 0xE312 ∷ []

not_hasty : Demand2For hasty → ⊥
unfolding ran.rig_after take_of take_with pending_of dropped_of closed_of verdict_of fresh_of head_of settled_of refused_of kind_of block_of counted_of crc_of crc_from shift frame_of mux_of quarter_of ground_at is_plain read_of
not_hasty d =
    let e : ◌≡◌ {A = ℕ} 1 0 = ap read_number (d.when.before [] ordered direction (tt, (tt, (tt, (tt, tt))))).0 in
    omega arith

-- a window ordered with the relay off, and a spin
abbrev asked : Rig
asked = with_core start_rig (with_settings start_core (with_sensor start_core.settings (with_direction clear_sensor (record { start = 1; stop = 1 }))))

not_relayed : Demand2For relayed → ⊥
not_relayed d = let e : ◌≡◌ {A = ℕ} 0 1 = ap (λ (x : Sensor). x.direction.start) (d.register.copied asked).0 in omega arith

-- a rig with relay, deflection's stepping and its target on, and a spin
abbrev aimed : Rig
aimed = with_core start_rig (with_supply start_core Deflection (record { relay = true; stepping = true; level = 0; target = 1; limit = 1 }))

not_undeflected : Demand2For undeflected → ⊥
not_undeflected d = let e : ◌≡◌ {A = ℕ} 0 1 = ((d.runs.spin aimed).supply Deflection).up refl refl (omega arith) in omega arith

-- a limit command with a bit above the four
not_strict : Demand2For (rig_of strict) → ⊥
not_strict d = (d.supplies.limit_never_0d start_rig 0x2910 Stop refl).0 refl

abbrev value_of : Shown → ℕ
value_of None = 0
value_of (Some k) = k.value

abbrev age_of : Shown → ℕ
age_of None = 0
age_of (Some k) = k.age.0

abbrev known_of : Shown → ℕ
known_of None = 0
known_of (Some k) = 1

abbrev answer_number : Answer → ℕ
answer_number desk.Heard = 0
answer_number desk.Missed = 1
answer_number (desk.Refused why) = 2

-- the bias is set to 1 between two frames
abbrev renewed : List Step
renewed = alone (set (panel.Bias 1) (omega arith)) ∷ built ∷ came ∷ []

-- a frame and a miss
abbrev then_missed : List Step
then_missed = built ∷ came ∷ idle marked ∷ []

-- 35 frames built, and all arrived
abbrev all : List Beat
all = replicate 35 build ++ replicate 35 hand

-- after 35 whole slots nothing is shown
not_idler : Demand3For idler → ⊥
unfolding steps
not_idler d = let e : ◌≡◌ {A = ℕ} 0 1 = ap known_of (d.round [] refl all refl refl Bias).1 in omega arith

-- a frame, a miss, and nothing is shown
not_blanker : Demand3For blanker → ⊥
unfolding steps slot_of arrived_of all_are cells_after reading_of is_plain half_after frame_of mux_of quarter_of ground_at
not_blanker d = let e : ◌≡◌ {A = ℕ} 0 1 = ap known_of (one_desk _ _ _ _ d then_missed Bias) in omega arith

-- a frame, a new bias, a frame, and the old one is shown
not_hoarder : Demand3For hoarder → ⊥
unfolding steps slot_of arrived_of all_are cells_after reading_of is_plain half_after frame_of mux_of quarter_of ground_at set_of
not_hoarder d = let e : ◌≡◌ {A = ℕ} 0 1 = ap value_of (one_desk _ _ _ _ d (built ∷ came ∷ renewed) Bias) in omega arith

-- a whole round, a new bias, a frame, and the old one is shown
not_pretender : Demand3For pretender → ⊥
unfolding steps slot_of arrived_of all_are cells_after reading_of is_plain half_after frame_of mux_of quarter_of ground_at set_of
not_pretender d = let e : ◌≡◌ {A = ℕ} 0 1 = ap value_of (one_desk _ _ _ _ d (beats all ++ renewed) Bias) in omega arith

-- a frame, a miss, and the bias is still shown as new
not_flatterer : Demand3For flatterer → ⊥
unfolding steps slot_of arrived_of all_are cells_after reading_of is_plain half_after frame_of mux_of quarter_of ground_at
not_flatterer d = let e : ◌≡◌ {A = ℕ} 0 1 = ap age_of (one_desk _ _ _ _ d then_missed Bias) in omega arith

-- fill is told as heard
not_liar : Demand1For snob → ⊥
unfolding slot_of arrived_of all_are
not_liar d = let e : ◌≡◌ {A = ℕ} 0 1 = ap answer_number (ap (λ (t : Received). t.answer) (d.fill fresh_desk).0) in omega arith

-- a foreign frame of index 0, whose byte 3 is not 0
abbrev foreign : List ℕ
foreign = 0 ∷ 0 ∷ 0 ∷ 0x80 ∷ replicate 36 0

byte_3 : List ℕ → ℕ
byte_3 f = get_or f 3 0

foreign_whole : IsWhole foreign
unfolding byte_3
foreign_whole =
    record {
      forty = refl;
      not_c0 = λ e. let z : ◌≡◌ {A = ℕ} 0x80 0xC0 = ap byte_3 e in omega arith;
      not_ff = λ e. let z : ◌≡◌ {A = ℕ} 0x80 0xFF = ap byte_3 e in omega arith;
    }

-- it carries the bias, which is not shown
not_snob : Demand2For snob → ⊥
unfolding slot_of arrived_of all_are cells_after reading_of is_plain half_after
not_snob d =
    let e : ◌≡◌ {A = ℕ} 0 1 = ap known_of (d.desk.plain fresh_desk foreign Bias foreign_whole refl refl) in
    omega arith

pub caught : Caught
caught =
    record {
      refuses = not_all;
      alike = not_alike;
      counts = not_uncounted;
      soon = not_hasty;
      late = not_relayed;
      forgets = not_undeflected;
      narrows = not_strict;
      nothing = not_idler;
      blanks = not_blanker;
      holds = not_hoarder;
      pretends = not_pretender;
      ages = not_flatterer;
      lies = not_liar;
      snubs = not_snob;
    }
