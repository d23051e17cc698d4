-- What a word does to each supply (specs/Supplies): by the cases of a word; a relay word and a limit command by their rows.
-- Assumes nothing.
use Rattle.std.specs.Prelude.{Ok, Err}
use Prim.Native.Nat.{ℕ, ◌/◌, ◌%◌, ◌<◌}
use mathlib.Core.Path.{◌≡◌, refl, ap, sym, subst, ◌∙◌}
use mathlib.Core.Bool.{Bool, true, false, ◌&&◌, ◌||◌, true≢false}
use native.Mathlib.Omega.{arith}
use lib.Dec.{eqb}
use borrow.Author.Tests.{eqb-true}
use Rattle.base.proofs.Cases.{split}
use Rattle.supply.specs.declared.Supply.{Supply}
use Rattle.supply.specs.Shapes.{Change}
use Rattle.supply.specs.declared.Refusal.TheVariants as supply
use Rattle.supply.specs.When.{relay_set, LimitWhen}
use Rattle.judge.specs.declared.Which.{Which}
use Rattle.judge.specs.declared.Which.TheVariants.{Stop, Start, Deflection}
use Rattle.judge.specs.declared.Core.{Core}
use Rattle.judge.specs.Shapes.{Verdict}
use Rattle.judge.specs.Records.{supply_at}
use Rattle.judge.specs.Table.{limit_code}
use Rattle.rig.specs.declared.Rig.{Rig}
use Rattle.rig.specs.declared.Answer.TheVariants.{Accepted, Waiting, Refused}
use Rattle.rig.specs.declared.Reply.{Reply}
use Rattle.rig.specs.declared.Reply.TheVariants.{Plain, Swallowed, Dropped}
use Rattle.rig.specs.declared.Taken.{Taken}
use Rattle.rig.specs.Words.{high_of, low_of, settled_of, refused_of, take_of}
use Rattle.rig.specs.Replies.{refusals_of}
use Rattle.laws.specs.Results.{dropped_rig, outcome, supplied}
use Rattle.laws.specs.Replies.{afterwards, Never}
use Rattle.laws.specs.Rows.{single, Idle, relays_set, SwitchWhen, on, off, bits}
use Rattle.laws.specs.Supplies.{commands, is_relay, was_accepted, SupplyWords}
use Rattle.laws.proofs.Tests.{not_both, by_option, each}
use Rattle.laws.proofs.Replies.{reply_laws}
use Rattle.laws.proofs.Rows.{row_laws}
use Rattle.laws.proofs.Words.{judged, begun, Case, idle, kept, closed, swallowed, again, case}

-- by the cases of a word
left_case : (w : ℕ) (x : Which) {r : Rig} {b : Bool} {t : Taken} → Case r (high_of w) (low_of w) b t
    → was_accepted t.reply && (is_relay (w / 256) || commands x (w / 256)) ≡ false → supply_at t.rig.core x ≡ supply_at r.core x
unfolding settled_of refused_of
left_case w x (idle e j (judged (Ok c) h)) n = h.1.1 x n
left_case w x (idle e j (judged (Err why) h)) n = refl
left_case w x (idle e j (begun h)) n = refl
left_case w x (kept p e h) n = refl
left_case w x (closed p e (Ok c) h) n = h.1.1 x
left_case w x (closed p e (Err why) h) n = refl
left_case w x (swallowed p e) n = refl
left_case w x (again p e j (judged (Ok c) h)) n = h.1.1 x n
left_case w x (again p e j (judged (Err why) h)) n = refl
left_case w x (again p e j (begun h)) n = refl

left : (r : Rig) (w : ℕ) (x : Which) → was_accepted (take_of r w).reply && (is_relay (w / 256) || commands x (w / 256)) ≡ false
    → supply_at (take_of r w).rig.core x ≡ supply_at r.core x
left r w x n = left_case w x (case r w) n

-- a number among three
among : (P : ℕ → Type 0) (n a b c : ℕ) → eqb n a || (eqb n b || eqb n c) ≡ true → P a → P b → P c → P n
among P n a b c e p q s =
    split (eqb n a) (λ f. subst P (sym (eqb-true n a f)) p) (λ f.
    split (eqb n b) (λ g. subst P (sym (eqb-true n b g)) q) (λ g.
    split (eqb n c) (λ h. subst P (sym (eqb-true n c h)) s) (λ h.
    absurd (true≢false (sym e ∙ simp (f, g, h))))))

-- no code is of two supplies, or a relay word's
distinct : (x y : Which) (high : ℕ) → (x ≡ y → ⊥) → commands y high ≡ true → is_relay high || commands x high ≡ false
distinct Stop Stop high n e = absurd (n refl)
distinct Stop Start high n e = among (λ k. is_relay k || commands Stop k ≡ false) high 0x20 0x21 0x2C e refl refl refl
distinct Stop Deflection high n e = among (λ k. is_relay k || commands Stop k ≡ false) high 0x23 0x24 0x22 e refl refl refl
distinct Start Stop high n e = among (λ k. is_relay k || commands Start k ≡ false) high 0x28 0x29 0x2D e refl refl refl
distinct Start Start high n e = absurd (n refl)
distinct Start Deflection high n e = among (λ k. is_relay k || commands Start k ≡ false) high 0x23 0x24 0x22 e refl refl refl
distinct Deflection Stop high n e = among (λ k. is_relay k || commands Deflection k ≡ false) high 0x28 0x29 0x2D e refl refl refl
distinct Deflection Start high n e = among (λ k. is_relay k || commands Deflection k ≡ false) high 0x20 0x21 0x2C e refl refl refl
distinct Deflection Deflection high n e = absurd (n refl)

-- a relay word, by its row: of each supply of the three
switched : (c : Core) (b : Bool) (x : Which) → supply_at (relays_set c b) x ≡ relay_set (supply_at c x) b
switched c b = each (λ x. supply_at (relays_set c b) x ≡ relay_set (supply_at c x) b) refl refl refl

by_row : (r : Rig) (low : ℕ) (x : Which) (t : Taken) (v : Verdict) → SwitchWhen r.core low v → t ≡ outcome r 0x08 v → was_accepted t.reply ≡ true
    → supply_at t.rig.core x ≡ relay_set (supply_at r.core x) (eqb (low / 2 % 2) 1)
by_row r low x t v (on h) e a = rw (e, h.0) (switched r.core true x)
by_row r low x t v (off h) e a = rw (e, h.0) (switched r.core false x)
by_row r low x t v (bits h) e a = absurd (true≢false (sym a ∙ ap (λ (u : Taken). was_accepted u.reply) e))

relay_idle : (r : Rig) (w : ℕ) (x : Which) → Idle r → w / 256 ≡ 0x08 → was_accepted (take_of r w).reply ≡ true
    → supply_at (take_of r w).rig.core x ≡ relay_set (supply_at r.core x) (eqb (w / 2 % 2) 1)
relay_idle r w x i e a =
    let row = row_laws.relay08 r (w % 256) (omega arith) i in
    let f : w ≡ single 0x08 (w % 256) = omega arith in
    let g : w % 256 / 2 % 2 ≡ w / 2 % 2 = omega arith in
    rw (sym g) (by_row r (w % 256) x (take_of r w) row.one row.is (ap (take_of r) f ∙ row.then) a)

-- the answer after a drop is the answer
still_accepted : (y : Reply) → was_accepted (afterwards y) ≡ was_accepted y
still_accepted (Plain Accepted) = refl
still_accepted (Plain Waiting) = refl
still_accepted (Plain (Refused why)) = refl
still_accepted Swallowed = refl
still_accepted (Dropped a) = refl

relay : (r : Rig) (w : ℕ) (x : Which) → is_relay (w / 256) ≡ true → was_accepted (take_of r w).reply ≡ true
    → supply_at (take_of r w).rig.core x ≡ relay_set (supply_at r.core x) (eqb (w / 2 % 2) 1)
relay r w x e a =
    let k = eqb-true (w / 256) 0x08 e in
    by_option r.pending
    (λ i. relay_idle r w x i k a)
    (λ p m.
    let q = dropped_rig r p.head in
    let again = reply_laws.afresh r w p m (omega arith) in
    ap (λ (t : Taken). supply_at t.rig.core x) again
    ∙ relay_idle q w x refl k (sym (still_accepted (take_of q w).reply) ∙ sym (ap (λ (t : Taken). was_accepted t.reply) again) ∙ a))

-- 0Dh is no answer of the row of a limit; 03h, of a block dropped first, is another number
limited : (r : Rig) (code : ℕ) (x : Which) (s : Supply) (low : ℕ) (ch : Change) → LimitWhen s low ch → Never 0x0D (refusals_of (supplied r code x ch).reply)
limited r code x s low (Ok n) h = tt
limited r code x s low (Err supply.Unsettled) h = (λ e. omega arith, tt)
limited r code x s low (Err supply.OutOfRange) h = absurd (omega (arith, h.1))
limited r code x s low (Err supply.RelayOff) h = absurd h
limited r code x s low (Err supply.Disabled) h = absurd h
limited r code x s low (Err supply.OverLimit) h = absurd h
limited r code x s low (Err supply.RelayBits) h = absurd h

limit_idle : (r : Rig) (w : ℕ) (x : Which) → Idle r → w / 256 ≡ limit_code x → Never 0x0D (refusals_of (take_of r w).reply)
limit_idle r w x i e =
    let row = row_laws.limit x r (w % 256) (omega arith) i in
    let f : w ≡ single (limit_code x) (w % 256) = omega arith in
    rw (ap (take_of r) f ∙ row.then) (limited r (limit_code x) x (supply_at r.core x) (w % 256) row.one row.is)

-- a limit command is a single
below_head : (w : ℕ) (x : Which) → w / 256 ≡ limit_code x → w / 0x4000 < 2
below_head w = each (λ x. w / 256 ≡ limit_code x → w / 0x4000 < 2) (λ e. omega arith) (λ e. omega arith) (λ e. omega arith)

still_never : (y : Reply) → Never 0x0D (refusals_of y) → Never 0x0D (refusals_of (afterwards y))
still_never (Plain a) n = (λ e. omega arith, n)
still_never Swallowed n = n
still_never (Dropped a) n = n

limit_never : (r : Rig) (w : ℕ) (x : Which) → w / 256 ≡ limit_code x → Never 0x0D (refusals_of (take_of r w).reply)
limit_never r w x e =
    by_option r.pending
    (λ i. limit_idle r w x i e)
    (λ p m.
    let q = dropped_rig r p.head in
    rw (reply_laws.afresh r w p m (below_head w x e)) (still_never (take_of q w).reply (limit_idle q w x refl e)))

pub supply_words : SupplyWords take_of
supply_words =
    record {
      left = left;
      others = λ r w x y n e. left r w x (not_both (was_accepted (take_of r w).reply) _ (distinct x y (w / 256) n e));
      relay = relay;
      limit_never_0d = limit_never;
    }
