-- The command table row by row (specs/Rows). A row's one verdict is what its command's definition gives; that it is alone is the row's own table
-- read the other way. The words of a row are put to the decoder's rule by arithmetic. Assumes nothing.
use Rattle.std.specs.Prelude.{Ok, Err}
use Prim.Native.Nat.{ℕ, ◌/◌, ◌%◌, ◌<◌, ◌≤◌}
use mathlib.Core.Path.{◌≡◌, refl, ap, sym, ◌∙◌}
use mathlib.Core.Bool.{true, false}
use mathlib.Core.Logic.{◌↔◌, ◌⊎◌, inl, inr}
use native.Mathlib.Omega.{arith}
use lib.Dec.{eqb}
use borrow.Author.Tests.{eqb-true, eqb-false, eq-eqb, ne_eqb, lt-ltb, le-ltb}
use Rattle.base.proofs.Cases.{split}
use Rattle.supply.specs.declared.Supply.{Supply}
use Rattle.supply.specs.Shapes.{Change}
use Rattle.supply.specs.declared.Refusal.TheVariants as supply
use Rattle.supply.specs.Shapes.{RelayWord}
use Rattle.supply.specs.Rules.{relay_of, targeted, limited, switched}
use Rattle.supply.specs.When.{RelayWhen, TargetWhen, LimitWhen, StepWhen}
use Rattle.supply.proofs.When.{relay_when, targeted_when, limited_when, switched_when}
use Rattle.crc.specs.Judged.{judge_of}
use Rattle.judge.specs.declared.Which.{Which}
use Rattle.judge.specs.declared.Core.{Core}
use Rattle.judge.specs.Shapes.{Verdict}
use Rattle.judge.specs.declared.Refusal.TheVariants.{StrayWord, WrongCount, UnknownCode}
use Rattle.judge.specs.Commands.{carried, ordered, relay_cmd, iel_cmd, mask_cmd, mode_cmd, single_of, counted_of, block_of}
use Rattle.judge.specs.Records.{supply_at}
use Rattle.judge.specs.Table.{target_code, limit_code, stepping_code}
use Rattle.judge.proofs.Table.{laws}
use Rattle.rig.specs.declared.Kind.TheVariants.{Single, Head, Data, End}
use Rattle.rig.specs.declared.Pending.{Pending}
use Rattle.rig.specs.declared.Rig.{Rig}
use Rattle.rig.specs.declared.Taken.{Taken}
use Rattle.rig.specs.Words.{high_of, low_of, code_of, same_code, keeps, closes, settled_of, refused_of, head_of, fresh_of, verdict_of, closed_of, dropped_of, pending_of, take_with, take_of}
use Rattle.laws.specs.Results.{opened, grown, refused, waiting, swallowed, outcome, supplied}
use Rattle.laws.specs.Rows.{single, Idle, Waits, SameCode, ExactlyOne, SupplyRow, CoreRow, SwitchWhen, on, off, bits, IelWhen, MaskWhen, ModeWhen, serial, parallel, other, Unlisted, PendingWhen, wrong_check, unknown, wrong_count_20, wrong_count_23, wrong_count_24, multiplexer, direction, energy, RowLaws}
use Rattle.laws.proofs.Tests.{by_test, not_both, each}
use Rattle.laws.proofs.Words.{takes}
use Rattle.laws.proofs.WordKinds.{of_kind, settled_is, supplied_is}

-- a single of a code, with nothing pending, is judged
judged : (r : Rig) (code low : ℕ) → code < 64 → low < 256 → Idle r → take_of r (single code low) ≡ settled_of r code (single_of r.core code low)
unfolding take_with fresh_of
judged r code low h l i =
    let e : high_of (single code low) ≡ code = omega arith in
    let f : low_of (single code low) ≡ low = omega arith in
    let g : code_of code ≡ code = omega arith in
    let k : single code low / 0x4000 ≡ 0 = omega arith in
    takes r (single code low) i (of_kind (single code low) Single k) ∙ rw (e, f, g)

-- A row: its rule gives the one x that its table allows, and the single comes to what x tells.
row : {A : Type 0} (code : ℕ) → code < 64 → (rule : Core → ℕ → A) (tells : Core → A → Verdict) (results : Rig → ℕ → A → Taken)
    → ((r : Rig) (high : ℕ) (x : A) → settled_of r high (tells r.core x) ≡ results r high x)
    → (When : Core → ℕ → A → Type 0)
    → ((c : Core) (low : ℕ) → When c low (rule c low)) → ((c : Core) (low : ℕ) (x : A) → When c low x → x ≡ rule c low)
    → ((c : Core) (low : ℕ) → single_of c code low ≡ tells c (rule c low))
    → (r : Rig) (low : ℕ) → low < 256 → Idle r
    → ExactlyOne (When r.core low) (λ x. take_of r (single code low) ≡ results r code x)
row code h rule tells results told When is alone cmd r low l i =
    record {
      one = rule r.core low;
      is = is r.core low;
      alone = alone r.core low;
      then = judged r code low h l i ∙ ap (settled_of r code) (cmd r.core low) ∙ told r code (rule r.core low);
    }

-- a row of the supply x: its table is the supply's, and says exactly when each answer is given
supply_row : (x : Which) (code : ℕ) → code < 64 → (rule : Supply → ℕ → Change) (When : Supply → ℕ → Change → Type 0)
    → ((s : Supply) (low : ℕ) (ch : Change) → (rule s low ≡ ch) ↔ When s low ch)
    → ((c : Core) (low : ℕ) → single_of c code low ≡ carried c x (rule (supply_at c x) low)) → SupplyRow take_of code x When
supply_row x code h rule When when cmd =
    row code h (λ c low. rule (supply_at c x) low) (λ c ch. carried c x ch) (λ r high ch. supplied r high x ch) (supplied_is x) (λ c low. When (supply_at c x) low)
    (λ c low. (when (supply_at c x) low (rule (supply_at c x) low)).0 refl) (λ c low ch w. sym ((when (supply_at c x) low ch).1 w)) cmd

-- a row of the core
core_row : (code : ℕ) → code < 64 → (rule : Core → ℕ → Verdict) (When : Core → ℕ → Verdict → Type 0)
    → ((c : Core) (low : ℕ) → When c low (rule c low)) → ((c : Core) (low : ℕ) (v : Verdict) → When c low v → v ≡ rule c low)
    → ((c : Core) (low : ℕ) → single_of c code low ≡ rule c low) → CoreRow take_of code When
core_row code h rule When = row code h rule (λ c v. v) outcome settled_is When

switch_here : (c : Core) (low : ℕ) (w : RelayWord) → RelayWhen low w → SwitchWhen c low (ordered c w)
switch_here c low (Ok true) h = on h
switch_here c low (Ok false) h = off h
switch_here c low (Err supply.RelayBits) h = bits h
switch_here c low (Err supply.RelayOff) h = absurd h
switch_here c low (Err supply.Disabled) h = absurd h
switch_here c low (Err supply.OverLimit) h = absurd h
switch_here c low (Err supply.Unsettled) h = absurd h
switch_here c low (Err supply.OutOfRange) h = absurd h

switch_alone : (c : Core) (low : ℕ) (v : Verdict) → SwitchWhen c low v → v ≡ relay_cmd c low
switch_alone c low v (on h) = ap (ordered c) (sym ((relay_when low (Ok true)).1 h))
switch_alone c low v (off h) = ap (ordered c) (sym ((relay_when low (Ok false)).1 h))
switch_alone c low v (bits h) = ap (ordered c) (sym ((relay_when low (Err supply.RelayBits)).1 h))

relay08 : CoreRow take_of 0x08 SwitchWhen
unfolding single_of
relay08 = core_row 0x08 (omega arith) relay_cmd SwitchWhen (λ c low. switch_here c low (relay_of low) ((relay_when low (relay_of low)).0 refl)) switch_alone (λ c low. refl)

-- a supply's code is a code
target_code_lem : (x : Which) → target_code x < 64
target_code_lem = each (λ x. target_code x < 64) (omega arith) (omega arith) (omega arith)

limit_code_lem : (x : Which) → limit_code x < 64
limit_code_lem = each (λ x. limit_code x < 64) (omega arith) (omega arith) (omega arith)

stepping_code_lem : (x : Which) → stepping_code x < 64
stepping_code_lem = each (λ x. stepping_code x < 64) (omega arith) (omega arith) (omega arith)

iel_0c : CoreRow take_of 0x0C IelWhen
unfolding single_of
iel_0c = core_row 0x0C (omega arith) iel_cmd IelWhen (λ c low. refl) (λ c low x e. e) (λ c low. refl)

mask26 : CoreRow take_of 0x26 MaskWhen
unfolding single_of
mask26 = core_row 0x26 (omega arith) mask_cmd MaskWhen (λ c low. refl) (λ c low x e. e) (λ c low. refl)

mode_here : (c : Core) (low : ℕ) → ModeWhen c low (mode_cmd c low)
unfolding mode_cmd
mode_here c low =
    by_test (ModeWhen c low) (eqb low 0) (λ e. serial (eqb-true low 0 e)) (λ e.
    by_test (ModeWhen c low) (eqb low 1) (λ f. parallel (eqb-true low 1 f)) (λ f.
    other (let a = eqb-false low 0 e in let b = eqb-false low 1 f in omega arith)))

mode_alone : (c : Core) (low : ℕ) (v : Verdict) → ModeWhen c low v → v ≡ mode_cmd c low
unfolding mode_cmd
mode_alone c low v (serial e) = simp e
mode_alone c low v (parallel e) = simp e
mode_alone c low v (other h) = let a : low ≡ 0 → ⊥ = λ e. omega arith in let b : low ≡ 1 → ⊥ = λ e. omega arith in simp (ne_eqb low 0 a, ne_eqb low 1 b)

mode_2b : CoreRow take_of 0x2B ModeWhen
unfolding single_of
mode_2b = core_row 0x2B (omega arith) mode_cmd ModeWhen mode_here mode_alone (λ c low. refl)

unlisted : (c : Core) (code low : ℕ) → Unlisted code → single_of c code low ≡ Err UnknownCode
unfolding single_of
unlisted c code low u =
    simp (ne_eqb _ _ u.not08, ne_eqb _ _ u.not_0c, ne_eqb _ _ u.not20, ne_eqb _ _ u.not21, ne_eqb _ _ u.not22, ne_eqb _ _ u.not23, ne_eqb _ _ u.not24, ne_eqb _ _ u.not26, ne_eqb _ _ u.not28, ne_eqb _ _ u.not29, ne_eqb _ _ u.not_2b, ne_eqb _ _ u.not_2c, ne_eqb _ _ u.not_2d)

-- a word with nothing pending that is refused whatever its code
module _ (r : Rig) (w : ℕ) (i : Idle r) where
  long : w / 0x4000 ≡ 1 → 79 < w % 256 → take_of r w ≡ refused r (w / 256) WrongCount
  unfolding take_with fresh_of head_of settled_of refused_of
  long e h = takes r w i (of_kind w Head e) ∙ simp (lt-ltb 79 (low_of w) h)

  waits : w / 0x4000 ≡ 1 → w % 256 ≤ 79 → take_of r w ≡ waiting r (opened (w / 256) (w % 256))
  unfolding take_with fresh_of head_of
  waits e h = takes r w i (of_kind w Head e) ∙ simp (le-ltb 79 (low_of w) h)

  stray_data : w / 0x4000 ≡ 2 → take_of r w ≡ refused r (w / 256) StrayWord
  unfolding take_with fresh_of settled_of refused_of
  stray_data e = takes r w i (of_kind w Data e)

  stray_end : 3 ≤ w / 0x4000 → take_of r w ≡ refused r (w / 256) StrayWord
  unfolding take_with fresh_of settled_of refused_of
  stray_end h = takes r w i (of_kind w End h)

-- a data or end word that meets a block
module _ (r : Rig) (w : ℕ) (p : Pending) (m : Waits r p) where
  kept : w / 0x4000 ≡ 2 → SameCode p w → p.got < p.n → take_of r w ≡ waiting r (grown p (w % 256))
  unfolding take_with pending_of
  kept e c h = takes r w m (of_kind w Data e) ∙ rw (eq-eqb _ _ c, lt-ltb _ _ h) refl

  swallowed_data : w / 0x4000 ≡ 2 → (SameCode p w → ⊥) ⊎ (p.n ≤ p.got) → take_of r w ≡ swallowed r p.head
  unfolding take_with pending_of dropped_of refused_of
  swallowed_data e (inl ne) = takes r w m (of_kind w Data e) ∙ rw (ne_eqb _ _ ne)
  swallowed_data e (inr h) =
      let f : keeps p (high_of w) ≡ false = not_both (same_code p (high_of w)) _ (le-ltb _ _ h) in
      takes r w m (of_kind w Data e) ∙ rw f

  swallowed_end : 3 ≤ w / 0x4000 → (SameCode p w → ⊥) ⊎ (p.got ≡ p.n → ⊥) → take_of r w ≡ swallowed r p.head
  unfolding take_with pending_of dropped_of refused_of
  swallowed_end e (inl ne) = takes r w m (of_kind w End e) ∙ rw (ne_eqb _ _ ne)
  swallowed_end e (inr ne) =
      let f : closes p (high_of w) ≡ false = not_both (same_code p (high_of w)) _ (ne_eqb _ _ ne) in
      takes r w m (of_kind w End e) ∙ rw f

  closed_is : 3 ≤ w / 0x4000 → SameCode p w → p.got ≡ p.n → take_of r w ≡ closed_of r p (low_of w)
  unfolding take_with pending_of
  closed_is e c h = takes r w m (of_kind w End e) ∙ rw (eq-eqb _ _ c, eq-eqb _ _ h)

closed_here : (c : Core) (p : Pending) (received : ℕ) → PendingWhen c p received (verdict_of (judge_of p.check received) c p)
unfolding verdict_of block_of counted_of
closed_here c p received =
    let code = code_of p.head in
    let Here = PendingWhen c p received in
    split (eqb received p.check) (λ e. let a = eqb-true received p.check e in simp e (
    by_test Here (eqb code 0x20) (λ f. let b = eqb-true code 0x20 f in
    by_test Here (eqb p.n 2) (λ g. multiplexer a b (eqb-true p.n 2 g)) (λ g. wrong_count_20 a b (eqb-false p.n 2 g))) (λ f.
    by_test Here (eqb code 0x23) (λ g. let b = eqb-true code 0x23 g in
    by_test Here (eqb p.n 2) (λ g. direction a b (eqb-true p.n 2 g)) (λ g. wrong_count_23 a b (eqb-false p.n 2 g))) (λ g.
    by_test Here (eqb code 0x24) (λ h. let b = eqb-true code 0x24 h in
    by_test Here (eqb p.n 2) (λ g. energy a b (eqb-true p.n 2 g)) (λ g. wrong_count_24 a b (eqb-false p.n 2 g))) (λ h.
    unknown a (eqb-false code 0x20 f) (eqb-false code 0x23 g) (eqb-false code 0x24 h))))))
    (λ e. simp e (wrong_check (eqb-false received p.check e)))

closed_alone : (c : Core) (p : Pending) (received : ℕ) (v : Verdict) → PendingWhen c p received v → v ≡ verdict_of (judge_of p.check received) c p
unfolding verdict_of block_of counted_of
closed_alone c p received v (wrong_check a) = simp (ne_eqb _ _ a)
closed_alone c p received v (unknown a x y z) = simp (eq-eqb _ _ a, ne_eqb _ _ x, ne_eqb _ _ y, ne_eqb _ _ z)
closed_alone c p received v (wrong_count_20 a x n) = simp (eq-eqb _ _ a, x, ne_eqb _ _ n)
closed_alone c p received v (wrong_count_23 a x n) = simp (eq-eqb _ _ a, x, ne_eqb _ _ n)
closed_alone c p received v (wrong_count_24 a x n) = simp (eq-eqb _ _ a, x, ne_eqb _ _ n)
closed_alone c p received v (multiplexer a x n) = simp (eq-eqb _ _ a, x, eq-eqb _ _ n)
closed_alone c p received v (direction a x n) = simp (eq-eqb _ _ a, x, eq-eqb _ _ n)
closed_alone c p received v (energy a x n) = simp (eq-eqb _ _ a, x, eq-eqb _ _ n)

pub row_laws : RowLaws take_of
unfolding closed_of
row_laws =
    record {
      relay08 = relay08;
      iel_0c = iel_0c;
      mask26 = mask26;
      mode_2b = mode_2b;
      target = λ x. supply_row x (target_code x) (target_code_lem x) targeted TargetWhen targeted_when (laws.target x);
      limit = λ x. supply_row x (limit_code x) (limit_code_lem x) limited LimitWhen limited_when (laws.limit x);
      stepping = λ x. supply_row x (stepping_code x) (stepping_code_lem x) switched StepWhen switched_when (laws.stepping x);
      unknown = λ r code low h l i u.
          judged r code low h l i ∙ ap (settled_of r code) (unlisted r.core code low u) ∙ settled_is r code (Err UnknownCode);
      long = long;
      waits = waits;
      stray_data = stray_data;
      stray_end = stray_end;
      kept = kept;
      closed = λ r w p m e c h. record {
        one = verdict_of (judge_of p.check (low_of w)) r.core p;
        is = closed_here r.core p (low_of w);
        alone = closed_alone r.core p (low_of w);
        then = closed_is r w p m e c h ∙ settled_is _ p.head (verdict_of (judge_of p.check (low_of w)) r.core p);
      };
      swallowed_data = swallowed_data;
      swallowed_end = swallowed_end;
    }
