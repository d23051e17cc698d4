-- The five frauds of 01 ("How tight each promise is") and five more, each written as a rig or a desk, and which demand catches it.
-- Assumes nothing.
use Rattle.std.specs.Prelude.{◌≡◌, Bool, true, false, ◌&&◌, List, [], ◌∷◌, ℕ, ◌/◌, ◌%◌, eqb, ltb, length, get_or, Some, None}
use Rattle.base.specs.Pick.{pick}
use Rattle.base.specs.Counts.{frames}
use Rattle.frame.specs.declared.Item.{Item}
use Rattle.frame.specs.Items.{row_of}
use Rattle.desk.specs.declared.Desk.{Desk}
use Rattle.cell.specs.declared.Cell.{Cell}
use Rattle.cell.specs.Shapes.{Shown, known}
use Rattle.desk.specs.declared.Answer.{Answer}
use Rattle.desk.specs.declared.Answer.TheVariants.{Heard, Missed, Refused}
use Rattle.desk.specs.declared.Received.{Received}
use Rattle.cell.specs.Cell.{shown_by}
use Rattle.desk.specs.Desk.{fresh_desk, slot_of, missed_of, shows}
use Rattle.desk.specs.Laws.{answered}
use Rattle.rig.specs.declared.Rig.{Rig}
use Rattle.rig.specs.declared.Answer.TheVariants as answer
use Rattle.rig.specs.declared.Reply.{Reply}
use Rattle.rig.specs.declared.Reply.TheVariants.{Plain, Swallowed, Dropped}
use Rattle.rig.specs.declared.Taken.{Taken}
use Rattle.judge.specs.declared.Which.TheVariants.{Stop, Deflection}
use Rattle.judge.specs.declared.Refusal.TheVariants.{OutOfRange}
use Rattle.judge.specs.Records.{with_supply}
use Rattle.judge.specs.Table.{limit_code}
use Rattle.rig.specs.Records.{with_core, with_register, with_faults}
use Rattle.rig.specs.Words.{take_of}
use Rattle.rig.specs.Start.{start_rig}
use Rattle.power.specs.Power.{spun_of, set_of, cut_of}
use Rattle.sending.specs.Sending.{sent, filled_of, next_frame}
use Rattle.laws.specs.Results.{refused}
use Rattle.laws.specs.Runs.{ours}
use Rattle.demands.specs.Outfit.{Outfit}
use Rattle.demands.specs.Demand1.{Demand1For}
use Rattle.demands.specs.Demand2.{Demand2For}
use Rattle.demands.specs.Demand3.{Demand3For}
use Rattle.demands.specs.One.{desk_of, machine_of, rig_of}

-- our desk's look, for the frauds that cheat elsewhere
abbrev pub ours_look : Desk → Item → Shown
ours_look d item = shows d (row_of item)

-- a reply that refuses
abbrev pub Refusing : Reply → Type 0
Refusing (Plain answer.Accepted) = ⊥
Refusing (Plain answer.Waiting) = ⊥
Refusing (Plain (answer.Refused why)) = Unit {0}
Refusing Swallowed = Unit {0}
Refusing (Dropped answer.Accepted) = ⊥
Refusing (Dropped answer.Waiting) = ⊥
Refusing (Dropped (answer.Refused why)) = Unit {0}

-- 1. a rig that refuses everything, whatever its grounds
abbrev pub RefusesEverything : (Rig → ℕ → Taken) → Type 0
RefusesEverything take = (r : Rig) (w : ℕ) → Refusing (take r w).reply

-- or answers every word alike
abbrev pub AnswersAlike : (Rig → ℕ → Taken) → Type 0
AnswersAlike take = (r q : Rig) (v w : ℕ) → (take r v).reply ≡ (take q w).reply

-- 2. a desk that does nothing
abbrev pub idler : Outfit
idler = desk_of fresh_desk (λ d f. record { answer = Heard; desk = d }) (λ d. d) ours_look

-- 3. a desk that blanks at a miss
abbrev pub blanker : Outfit
blanker = desk_of fresh_desk slot_of (λ d. fresh_desk) ours_look

-- is an item shown as known?
abbrev pub is_known : Shown → Bool
is_known None = false
is_known (Some k) = true

-- a slot at which everything known grows older, told as heard
abbrev pub aged : Desk → Received
aged d = record { answer = Heard; desk = missed_of d }

-- or holds back what came: once it knows the bias, it lets nothing new in
abbrev pub hoarder : Outfit
hoarder = desk_of fresh_desk (λ d f. pick (is_known (shows d 12)) (aged d) (slot_of d f)) missed_of ours_look

-- is every item known?
abbrev pub all_known : List Cell → Bool
all_known [] = true
all_known (c ∷ cs) = pick (is_known (shown_by c)) (all_known cs) false

-- 4. a desk that reads the first round, until every item is known, and then only pretends
abbrev pub pretender : Outfit
pretender = desk_of fresh_desk (λ d f. pick (all_known d.cells) (aged d) (slot_of d f)) missed_of ours_look

-- 5. made-up ages: everything known is shown as new
abbrev pub as_new : Shown → Shown
as_new None = None
as_new (Some k) = known k.value (frames 0)

abbrev pub flatterer : Outfit
flatterer = desk_of fresh_desk slot_of missed_of (λ d item. as_new (ours_look d item))

-- or made-up invalid counts: always 0
abbrev pub uncounted : Rig → ℕ → Taken
uncounted r w =
    let t = take_of r w in
    record { rig = with_faults t.rig (record { error = t.rig.faults.error; last = t.rig.faults.last; count = 0 }); reply = t.reply }

-- 6. a desk that takes every foreign frame with byte 3 not 0 for a miss, though 01 says that byte 3 is not read, and tells whole frames as missed and fill
-- as heard; of the frames that a rig builds it shows what it should
abbrev pub told : Answer → Answer
told Heard = Missed
told Missed = Heard
told (Refused why) = Refused why

abbrev pub lied : Received → Received
lied r = record { answer = told r.answer; desk = r.desk }

abbrev pub snubs : Desk → List ℕ → Received
snubs d f = pick (eqb (length f) 40) (pick (eqb (get_or f 3 0) 0) (slot_of d f) (answered Missed (missed_of d))) (slot_of d f)

abbrev pub snob : Outfit
snob = desk_of fresh_desk (λ d f. lied (snubs d f)) missed_of ours_look

-- 7. a rig that shows a window too soon: its frames have what was ordered, not the register
abbrev pub too_soon : Rig → Rig
too_soon r = with_register r r.core.settings.sensor

abbrev pub hasty : Outfit
hasty = machine_of ours (λ r. next_frame (too_soon r)) (λ r b at. filled_of (too_soon r) b at)

-- 8. a rig whose spin copies what was ordered only while the relay is on
abbrev pub copies_if_on : Rig → Rig
copies_if_on r = with_register (spun_of r) (pick r.core.stop.relay r.core.settings.sensor r.register)

abbrev pub relayed : Outfit
relayed = machine_of (record { start = start_rig; take = take_of; spin = copies_if_on; set = set_of; cut = cut_of; sent = sent }) next_frame filled_of

-- 9. a rig whose spin leaves deflection
abbrev pub forgets_deflection : Rig → Rig
forgets_deflection r = with_core (spun_of r) (with_supply (spun_of r).core Deflection r.core.deflection)

abbrev pub undeflected : Outfit
undeflected = machine_of (record { start = start_rig; take = take_of; spin = forgets_deflection; set = set_of; cut = cut_of; sent = sent }) next_frame filled_of

-- 10. a rig that takes the whole low byte of a limit command for the limit, and refuses it 0Dh above 15, as a reader of G may expect
abbrev pub strict : Rig → ℕ → Taken
strict r w = pick (eqb (w / 256) (limit_code Stop) && ltb 15 (w % 256)) (refused r (w / 256) OutOfRange) (take_of r w)

-- which demand catches each
pub record Caught : Type 0 where
  -- demand 2
  pub refuses : (take : Rig → ℕ → Taken) → RefusesEverything take → Demand2For (rig_of take) → ⊥
  pub alike : (take : Rig → ℕ → Taken) → AnswersAlike take → Demand2For (rig_of take) → ⊥
  pub counts : Demand2For (rig_of uncounted) → ⊥
  pub soon : Demand2For hasty → ⊥
  pub late : Demand2For relayed → ⊥
  pub forgets : Demand2For undeflected → ⊥
  pub narrows : Demand2For (rig_of strict) → ⊥
  -- demand 3: the 35 slots
  pub nothing : Demand3For idler → ⊥
  -- demand 3: the latest is shown
  pub blanks : Demand3For blanker → ⊥
  pub holds : Demand3For hoarder → ⊥
  -- demand 3: the run is any length
  pub pretends : Demand3For pretender → ⊥
  -- demand 3: the true age
  pub ages : Demand3For flatterer → ⊥
  -- demand 1: what is told of the bytes; demand 2: bits that are not named change nothing
  pub lies : Demand1For snob → ⊥
  pub snubs : Demand2For snob → ⊥
