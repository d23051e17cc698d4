-- The history of slots, computed: what the newest slots bring, and what is then shown; and that this is what `Told` says.
-- Assumes nothing.
use Rattle.std.specs.Prelude.{None}
use mathlib.Core.Path.{◌≡◌, refl, ◌∙◌, sym, ap, subst}
use mathlib.Core.Bool.{Bool, true, false}
use mathlib.Core.List.{List, [], ◌∷◌}
use mathlib.Core.Logic.{◌⊎◌, inl, inr}
use Prim.Native.Nat.{ℕ, zero, suc, ◌+◌, ◌-◌, ◌%◌, ◌<◌, ◌≤◌, min}
use native.Mathlib.Nat.{not-suc-le-zero, mod-le}
use native.Mathlib.Omega.{arith}
use lib.Dec.{eqb, leb, ltb, leb→le, ltb→lt}
use lib.ListN.{drop}
use lib.Seq.{drop-nil}
use borrow.Author.Tests.{eq-eqb, eqb-true}
use Rattle.frame.specs.Items.{items}
use Rattle.cell.specs.Shapes.{Shown, known}
use Rattle.base.specs.Pick.{pick}
use Rattle.base.specs.Counts.{frames}
use Rattle.frame.specs.Read.{carries, born_of, phase_of, period_of}
use Rattle.cell.specs.Cell.{aged_of, latest_of}
use Rattle.base.proofs.Table.{below}
use Rattle.rig.specs.declared.Rig.{Rig}
use Rattle.demands.specs.History.{held, Slot, missed, whole, Unbroken, one, more, Brings, Told, not_yet, latest}

pub data Run : Type 0 where
  broken : Run
  from : Rig → Run

-- where the newest n + 1 frames came whole, with frame indices in a row that end in i: the rig when the first was built
unfoldable pub back : ℕ → ℕ → List Slot → Run
back n i [] = broken
back n i (missed ∷ h) = broken
back zero i (whole r ∷ h) = pick (eqb r.sending.next i) (from r) broken
back (suc n) i (whole r ∷ h) = pick (eqb r.sending.next i) (back n (i - 1) h) broken

-- what such a run brings of the item in row k
abbrev pub born : ℕ → Run → Shown
born k broken = None
born k (from r) = known (held r k) (frames (born_of k))

unfoldable pub brought : ℕ → List Slot → Shown
brought k [] = None
brought k (missed ∷ h) = None
brought k (whole r ∷ h) = pick (carries k r.sending.next) (born k (back (born_of k) r.sending.next (whole r ∷ h))) None

unfoldable pub shown_of : ℕ → List Slot → Shown
shown_of k [] = None
shown_of k (s ∷ h) = latest_of (brought k (s ∷ h)) (shown_of k h)

pub back_one : (i : ℕ) (r : Rig) (h : List Slot) → r.sending.next ≡ i → back 0 i (whole r ∷ h) ≡ from r
unfolding back
back_one i r h e = rw (eq-eqb _ _ e)

pub back_more : (n i : ℕ) (r : Rig) (h : List Slot) → r.sending.next ≡ i → back (suc n) i (whole r ∷ h) ≡ back n (i - 1) h
unfolding back
back_more n i r h e = rw (eq-eqb _ _ e)

pub no_run : (r : Rig) → broken ≡ from r → ⊥
no_run r e = let z : ◌≡◌ {A = ℕ} 0 1 = cc in omega arith

-- the computed form is right
back_of : {n : ℕ} {f r : Rig} {h : List Slot} → Unbroken n f r h → back n r.sending.next h ≡ from f
back_of (one {r = r} {h = h}) = back_one r.sending.next r h refl
back_of (more {n = n} {f = f} {p = p} {r = r} {h = h} u e) =
    back_more n r.sending.next r h refl ∙ ap (λ (i : ℕ). back n i h) (omega (arith, e)) ∙ back_of u

top : {n : ℕ} {f r : Rig} {h : List Slot} → Unbroken n f r h → (t : List Slot) × (h ≡ whole r ∷ t)
top (one {h = h}) = (h, refl)
top (more {h = h} u e) = (h, refl)

abbrev Runs : ℕ → Rig → ℕ → List Slot → Type 0
Runs n f i h = (r : Rig) × (r.sending.next ≡ i) × Unbroken n f r h

run_one : (b : Bool) (f r : Rig) (i : ℕ) (h : List Slot) → eqb r.sending.next i ≡ b → pick b (from r) broken ≡ from f → Runs 0 f i (whole r ∷ h)
run_one false f r i h t e = absurd (no_run f e)
run_one true f r i h t e = let q : r ≡ f = cc in (r, eqb-true _ _ t, subst (λ (x : Rig). Unbroken 0 x r (whole r ∷ h)) q one)

run_more : (b : Bool) (n : ℕ) (f r : Rig) (i : ℕ) (h : List Slot) → eqb r.sending.next i ≡ b → 0 < i → (back n (i - 1) h ≡ from f → Runs n f (i - 1) h)
    → pick b (back n (i - 1) h) broken ≡ from f → Runs (suc n) f i (whole r ∷ h)
run_more false n f r i h t l ih e = absurd (no_run f e)
run_more true n f r i h t l ih e =
    let u : Runs n f (i - 1) h = ih e in
    let q : r.sending.next ≡ i = eqb-true _ _ t in
    let s : r.sending.next ≡ u.0.sending.next + 1 = omega (arith, u.1) in
    (r, q, more u.2 s)

run_of : (n : ℕ) (f : Rig) (i : ℕ) (h : List Slot) → n ≤ i → back n i h ≡ from f → Runs n f i h
unfolding back
run_of n f i [] l e = absurd (no_run f e)
run_of n f i (missed ∷ h) l e = absurd (no_run f e)
run_of zero f i (whole r ∷ h) l e = run_one (eqb r.sending.next i) f r i h refl e
run_of (suc n) f i (whole r ∷ h) l e = run_more (eqb r.sending.next i) n f r i h refl (omega arith) (λ d. run_of n f (i - 1) h (omega arith) d) e

pub unknown_known : (v a : ℕ) → None ≡ known v (frames a) → ⊥
unknown_known v a e = let z : ◌≡◌ {A = ℕ} 0 1 = cc in omega arith

-- what is brought is brought
pub brings_is : (k v : ℕ) (h : List Slot) → Brings k v h → brought k h ≡ known v (frames (born_of k))
unfolding brought
brings_is k v h b =
    let t : (t : List Slot) × (h ≡ whole b.last ∷ t) = top b.came in
    let e : back (born_of k) b.last.sending.next (whole b.last ∷ t.0) ≡ from b.first =
    subst (λ (x : List Slot). back (born_of k) b.last.sending.next x ≡ from b.first) t.1 (back_of b.came) in
    ap (brought k) t.1 ∙ rw (eq-eqb _ _ b.due, e, b.value)

module _ (k : ℕ) (in_table : k < items) where
  born_phase : born_of k ≤ phase_of k
  born_phase = leb→le _ _ (below (λ (j : ℕ). leb (born_of j) (phase_of j)) items tt k in_table)

  phase_32 : phase_of k < 32
  phase_32 = ltb→lt _ _ (below (λ (j : ℕ). ltb (phase_of j) 32) items tt k in_table)

  abbrev Case : List Slot → Type 0
  Case h = ((v : ℕ) × Brings k v h × (brought k h ≡ known v (frames (born_of k)))) ⊎ (brought k h ≡ None)

  due_cases : (c : Bool) (x : Run) (r : Rig) (h : List Slot) → carries k r.sending.next ≡ c → back (born_of k) r.sending.next (whole r ∷ h) ≡ x → Case (whole r ∷ h)
  unfolding brought
  due_cases false x r h c e = inr (rw c)
  due_cases true broken r h c e = inr (rw (c, e))
  due_cases true (from f) r h c e =
      let q : r.sending.next % period_of k ≡ phase_of k = eqb-true _ _ c in
      let u : Runs (born_of k) f r.sending.next (whole r ∷ h) =
      run_of (born_of k) f r.sending.next (whole r ∷ h) (omega (arith, born_phase, mod-le r.sending.next (period_of k))) e in
      let b : Brings k (held f k) (whole r ∷ h) =
      record { first = f; last = u.0; came = u.2; due = rw u.1 q; value = refl } in
      inl (held f k, b, brings_is k (held f k) (whole r ∷ h) b)

  cases : (h : List Slot) → Case h
  unfolding brought
  cases [] = inr refl
  cases (missed ∷ h) = inr refl
  cases (whole r ∷ h) = due_cases (carries k r.sending.next) (back (born_of k) r.sending.next (whole r ∷ h)) r h refl refl

  nothing_new : (h : List Slot) (v : ℕ) → brought k h ≡ None → Brings k v h → ⊥
  nothing_new h v e b = unknown_known v (born_of k) (sym e ∙ brings_is k v h b)

  none_yet : (s : Slot) (h : List Slot) → brought k (s ∷ h) ≡ None → ((j v : ℕ) → Brings k v (drop j h) → ⊥) → (j v : ℕ) → Brings k v (drop j (s ∷ h)) → ⊥
  none_yet s h e n zero v b = nothing_new (s ∷ h) v e b
  none_yet s h e n (suc j) v b = n j v b

  none_since : (s : Slot) (h : List Slot) (j : ℕ) → brought k (s ∷ h) ≡ None → ((i u : ℕ) → i < j → Brings k u (drop i h) → ⊥)
      → (i u : ℕ) → i < suc j → Brings k u (drop i (s ∷ h)) → ⊥
  none_since s h j e n zero u l b = nothing_new (s ∷ h) u e b
  none_since s h j e n (suc i) u l b = n i u (omega arith) b

  age : {v m n : ℕ} → m ≡ n → known v (frames m) ≡ known v (frames n)
  age {v} e = ap (λ (x : ℕ). known v (frames x)) e

  older : (s : Slot) (h : List Slot) → brought k (s ∷ h) ≡ None → (x : Shown) → Told k h x → Told k (s ∷ h) (aged_of x)
  older s h e x (not_yet n) = not_yet (none_yet s h e n)
  older s h e x (latest j v b n) =
      let q : min 65535 (suc j + born_of k) ≡ min 65535 (min 65535 (j + born_of k) + 1) = omega arith in
      subst (Told k (s ∷ h)) (age q) (latest (suc j) v b (none_since s h j e n))

  pub told : (h : List Slot) → Told k h (shown_of k h)
  unfolding shown_of brought
  told [] = not_yet (λ j v b. nothing_new (drop j []) v (ap (brought k) (drop-nil j)) b)
  told (s ∷ h) = go (told h) (cases (s ∷ h))
    where
      go : Told k h (shown_of k h) → Case (s ∷ h) → Told k (s ∷ h) (latest_of (brought k (s ∷ h)) (shown_of k h))
      go i (inl c) =
          let q : min 65535 (0 + born_of k) ≡ born_of k = omega (arith, born_phase, phase_32) in
          rw c.2 (subst (Told k (s ∷ h)) (age q) (latest 0 c.0 c.1 (λ i u l b. not-suc-le-zero l)))
      go i (inr e) = rw e (older s h e (shown_of k h) i)
