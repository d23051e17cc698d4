-- What a word may move, by its reply (specs/Replies): by the cases of a word, and in each by the verdict.
-- Assumes nothing.
use Rattle.std.specs.Prelude.{Ok, Err, Option, Some}
use Prim.Native.Nat.{ℕ, ◌/◌, ◌<◌, ◌≤◌}
use mathlib.Core.Path.{◌≡◌, refl, ap, sym, subst, ◌∙◌}
use mathlib.Core.Bool.{Bool, true, ◌&&◌}
use native.Mathlib.Omega.{arith}
use Rattle.base.specs.Pick.{pick}
use Rattle.judge.specs.declared.Core.{Core}
use Rattle.judge.specs.declared.Refusal.{Refusal}
use Rattle.judge.specs.declared.Refusal.TheVariants.{RelayOff, Disabled, OverLimit, StrayWord, RelayBits, WrongCheck, Unsettled, OutOfRange, WrongCount, UnknownCode}
use Rattle.judge.specs.Refusals.{number_of}
use Rattle.rig.specs.declared.Kind.{Kind}
use Rattle.rig.specs.declared.Kind.TheVariants.{Single, Head, Data, End}
use Rattle.rig.specs.declared.Faults.{Faults}
use Rattle.rig.specs.declared.Pending.{Pending}
use Rattle.rig.specs.declared.Rig.{Rig}
use Rattle.rig.specs.declared.Answer.TheVariants.{Accepted, Waiting, Refused}
use Rattle.rig.specs.declared.Reply.{Reply}
use Rattle.rig.specs.declared.Reply.TheVariants.{Plain, Swallowed, Dropped}
use Rattle.rig.specs.declared.Taken.{Taken}
use Rattle.rig.specs.Records.{with_core, with_faults, with_pending, with_check}
use Rattle.rig.specs.Words.{high_of, low_of, kind_of, settled_of, refused_of, fresh_of, after_drop, drop_block, dropped_of, pending_of, take_with, take_of}
use Rattle.rig.specs.Replies.{refusals_of}
use Rattle.laws.specs.Results.{check_in, dropped_rig}
use Rattle.laws.specs.Ordered.{Order, pair_of, is_of, asked_in, is_accepted}
use Rattle.laws.specs.Replies.{After, Apart, closing, afterwards, Never, ReplyLaws}
use Rattle.laws.specs.Runs.{codes, one_of}
use Rattle.laws.proofs.WordKinds.{IsKind, kind_of_lem, closing_is}
use Rattle.laws.proofs.Words.{takes, judged, begun, Case, idle, kept, closed, swallowed, again, case}

-- a rig in which nothing but core, faults, pending block and last check may differ
alike : (r : Rig) (c : Core) (f : Faults) (p : Option Pending) (k : ℕ)
    → Apart r (with_check (with_pending (with_faults (with_core r c) f) p) k)
alike r c f p k = record { panel = refl; sending = refl; edbs = refl; register = refl }

-- what was ordered of the sensor, part by part, after a word with this reply; the test says whether it closed the block
abbrev pub Ordered : Rig → Bool → Rig → Reply → Type 0
Ordered r b q y =
    (p : Order) → pair_of p q.core.settings.sensor
    ≡ pick (b && (is_accepted y && is_of p r.pending)) (asked_in p r.pending) (pair_of p r.core.settings.sensor)

-- what the reply's kind lets move, what no word moves, the last check, and what was ordered
abbrev Moved : Rig → ℕ → Bool → Taken → Type 0
Moved r w b t =
    After r w t.rig t.reply × Apart r t.rig × (t.rig.check ≡ pick b (check_in r.pending) r.check) × Ordered r b t.rig t.reply

moved : (w : ℕ) {r : Rig} {b : Bool} {t : Taken} → Case r (high_of w) (low_of w) b t → Moved r w b t
unfolding settled_of refused_of
moved w (idle e j (judged (Ok c) h)) = ((refl, rw e refl), alike _ _ _ _ _, refl, λ p. ap (pair_of p) h.1.0)
moved w (idle e j (judged (Err why) h)) = ((record { core = refl; pending = rw e refl }, rw e refl), alike _ _ _ _ _, refl, λ p. refl)
moved w (idle e j (begun h)) = ((refl, refl, rw e refl), alike _ _ _ _ _, refl, λ p. refl)
moved w (kept p e h) = ((refl, refl, rw e refl), alike _ _ _ _ _, refl, λ q. refl)
moved w (closed p e (Ok c) h) = ((refl, refl), alike _ _ _ _ _, rw e refl, λ q. rw e (h.1.0 q))
moved w (closed p e (Err why) h) = ((record { core = refl; pending = refl }, rw e refl), alike _ _ _ _ _, rw e refl, λ q. refl)
moved w (swallowed p e) = ((p, e, record { core = refl; pending = refl }, refl), alike _ _ _ _ _, refl, λ q. refl)
moved w (again p e j (judged (Ok c) h)) = ((p, e, refl, refl), alike _ _ _ _ _, refl, λ q. ap (pair_of q) h.1.0)
moved w (again p e j (judged (Err why) h)) = ((p, e, record { core = refl; pending = refl }, refl), alike _ _ _ _ _, refl, λ q. refl)
moved w (again p e j (begun h)) = ((p, e, refl, refl, refl), alike _ _ _ _ _, refl, λ q. refl)

pub ordered_word : (r : Rig) (w : ℕ) → Ordered r (closing r w) (take_of r w).rig (take_of r w).reply
ordered_word r w = subst (λ (b : Bool). Ordered r b (take_of r w).rig (take_of r w).reply) (sym (closing_is r w)) (moved w (case r w)).3

-- a single or a head: the dropped rig has nothing pending, and takes the word by the same rule
again_is : (r : Rig) (p : Pending) (q : ℕ) (k : Kind) (high low : ℕ) → IsKind q k → q < 2
    → pending_of r p k high low ≡ after_drop (fresh_of (drop_block r p) k high low)
unfolding pending_of dropped_of
again_is r p q Single high low e h = refl
again_is r p q Head high low e h = refl
again_is r p q Data high low e h = absurd (omega arith)
again_is r p q End high low e h = absurd (omega arith)

afresh : (r : Rig) (w : ℕ) (p : Pending) → r.pending ≡ Some p → w / 0x4000 < 2
    → let q = dropped_rig r p.head in take_of r w ≡ record { rig = (take_of q w).rig; reply = afterwards (take_of q w).reply }
unfolding refused_of take_with
afresh r w p e h =
    let k = kind_of (high_of w) in
    takes r w e refl
    ∙ again_is r p (w / 0x4000) k (high_of w) (low_of w) (kind_of_lem w k refl) h
    ∙ ap (λ (t : Taken). record { rig = t.rig; reply = afterwards t.reply }) (sym (takes (drop_block r p) w refl refl))

-- the number of a refusal: four bits, one of those that there are, and never 07h
pub number_is : (why : Refusal) → (number_of why ≤ 15) × (number_of why ≡ 0x07 → ⊥) × (one_of codes (number_of why) ≡ true)
number_is RelayOff = (omega arith, λ e. omega arith, refl)
number_is Disabled = (omega arith, λ e. omega arith, refl)
number_is OverLimit = (omega arith, λ e. omega arith, refl)
number_is StrayWord = (omega arith, λ e. omega arith, refl)
number_is RelayBits = (omega arith, λ e. omega arith, refl)
number_is WrongCheck = (omega arith, λ e. omega arith, refl)
number_is Unsettled = (omega arith, λ e. omega arith, refl)
number_is OutOfRange = (omega arith, λ e. omega arith, refl)
number_is WrongCount = (omega arith, λ e. omega arith, refl)
number_is UnknownCode = (omega arith, λ e. omega arith, refl)

never : (y : Reply) → Never 0x07 (refusals_of y)
never (Plain Accepted) = tt
never (Plain Waiting) = tt
never (Plain (Refused why)) = ((number_is why).1, tt)
never Swallowed = (λ e. omega arith, tt)
never (Dropped Accepted) = (λ e. omega arith, tt)
never (Dropped Waiting) = (λ e. omega arith, tt)
never (Dropped (Refused why)) = (λ e. omega arith, ((number_is why).1, tt))

pub reply_laws : ReplyLaws take_of
reply_laws =
    record {
      moves = λ r w. (moved w (case r w)).0;
      apart = λ r w. (moved w (case r w)).1;
      check = λ r w. (moved w (case r w)).2 ∙ ap (λ (b : Bool). pick b (check_in r.pending) r.check) (sym (closing_is r w));
      afresh = afresh;
      never07 = λ r w. never (take_of r w).reply;
    }
