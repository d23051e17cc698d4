-- 35 whole slots in a row show every item as the rig then holds it.
-- Assumes nothing.
use Rattle.std.specs.Prelude.{None}
use mathlib.Core.Path.{◌≡◌, refl, ◌∙◌, sym, ap}
use mathlib.Core.Bool.{Bool, true, false}
use mathlib.Core.List.{List, ◌∷◌}
use Prim.Native.Nat.{ℕ, zero, suc, ◌+◌, ◌-◌, ◌%◌, ◌<◌, ◌≤◌, min}
use native.Mathlib.Nat.{not-suc-le-zero}
use native.Mathlib.Omega.{arith}
use native.Mathlib.Decide.{le_ind}
use lib.Dec.{eqb, leb, ltb, leb→le, ltb→lt}
use lib.ListN.{replicate}
use Rattle.frame.specs.Items.{items}
use Rattle.base.specs.declared.Frames.{Frames}
use Rattle.base.specs.Pick.{pick}
use Rattle.base.specs.Counts.{frames}
use Rattle.frame.specs.Read.{carries, born_of, phase_of}
use Rattle.cell.specs.Cell.{aged_of, latest_of}
use Rattle.desk.specs.Desk.{shows}
use Rattle.base.proofs.Table.{below, is_true}
use Rattle.rig.specs.declared.Rig.{Rig}
use Rattle.sending.specs.Sending.{sent}
use Rattle.demands.specs.History.{held, Slot, whole}
use Rattle.demands.proofs.Shown.{Run, broken, from, back, born, brought, shown_of, back_one, back_more}
use Rattle.demands.specs.Outfit.{proved}
use Rattle.demands.specs.AtOnce.{Turn, arrives, World, start, next, run}
use Rattle.demands.proofs.Invariant.{runs, after, good}
use Rattle.cell.specs.Shapes.{known}

-- the rig after m frames, and the history with m whole frames more
abbrev B : ℕ → Rig → Rig
B zero r = r
B (suc m) r = sent (B m r)

abbrev W : ℕ → Rig → List Slot → List Slot
W zero r h = h
W (suc m) r h = whole (B m r) ∷ W m r h

b_shift : (m : ℕ) (r : Rig) → B m (sent r) ≡ B (suc m) r
b_shift zero r = refl
b_shift (suc m) r = ap sent (b_shift m r)

w_shift : (m : ℕ) (r : Rig) (h : List Slot) → W m (sent r) (whole r ∷ h) ≡ W (suc m) r h
w_shift zero r h = refl
w_shift (suc m) r h = rw (w_shift m r h, b_shift m r)

past : (m : ℕ) (w : World) → (run proved w (replicate m arrives)).past ≡ W m w.rig w.past
unfolding run
past zero w = refl
past (suc m) w = past m (next proved w arrives) ∙ w_shift m w.rig w.past

rig : (m : ℕ) (w : World) → (run proved w (replicate m arrives)).rig ≡ B m w.rig
unfolding run
rig zero w = refl
rig (suc m) w = rig m (next proved w arrives) ∙ b_shift m w.rig

b_held : (m k : ℕ) (r : Rig) → held (B m r) k ≡ held r k
b_held zero k r = refl
b_held (suc m) k r = b_held m k r

pick_from : (b : Bool) (x : Run) (r : Rig) → pick b x broken ≡ from r → x ≡ from r
pick_from true x r e = e
pick_from false x r e = let z : ◌≡◌ {A = ℕ} 0 1 = cc in absurd (omega arith)

held_in : ℕ → Run → ℕ
held_in k broken = 0
held_in k (from r) = held r k

module _ (r : Rig) (h : List Slot) (n31 : r.sending.next ≤ 31) where
  b_next : (m : ℕ) → (B m r).sending.next ≡ (r.sending.next + m) % 32
  b_next zero = omega arith
  b_next (suc m) = let e : (B m r).sending.next ≡ (r.sending.next + m) % 32 = b_next m in omega arith

  -- a run that lies in the window starts at a rig with the present items
  inside : (n i m k : ℕ) (r0 : Rig) → n < m → back n i (W m r h) ≡ from r0 → held r0 k ≡ held r k
  unfolding back held_in
  inside n i zero k r0 l e = absurd (not-suc-le-zero l)
  inside zero i (suc m) k r0 l e = sym (ap (held_in k) (pick_from (eqb (B m r).sending.next i) (from (B m r)) r0 e)) ∙ b_held m k r
  inside (suc n) i (suc m) k r0 l e = inside n (i - 1) m k r0 (omega arith) (pick_from (eqb (B m r).sending.next i) (back n (i - 1) (W m r h)) r0 e)

  -- and there is one wherever the index has come far enough
  there : (n i m : ℕ) → n ≤ m → n ≤ i → (B m r).sending.next ≡ i → (r0 : Rig) × (back n i (W (suc m) r h) ≡ from r0)
  there zero i m l j e = (B m r, back_one i (B m r) (W m r h) e)
  there (suc n) i zero l j e = absurd (not-suc-le-zero l)
  there (suc n) i (suc m) l j e =
      let t : (r0 : Rig) × (back n (i - 1) (W (suc m) r h) ≡ from r0) =
      there n (i - 1) m (omega arith) (omega arith)
      (let p : (B m r).sending.next ≡ (r.sending.next + m) % 32 = b_next m in omega (arith, e)) in
      (t.0, back_more n i (B (suc m) r) (W (suc m) r h) e ∙ t.1)

  module _ (k : ℕ) (in_table : k < items) where
    born-3 : born_of k ≤ 3
    born-3 = leb→le _ _ (below (λ (j : ℕ). leb (born_of j) 3) items tt k in_table)

    born_phase : born_of k ≤ phase_of k
    born_phase = leb→le _ _ (below (λ (j : ℕ). leb (born_of j) (phase_of j)) items tt k in_table)

    phase_32 : phase_of k < 32
    phase_32 = ltb→lt _ _ (below (λ (j : ℕ). ltb (phase_of j) 32) items tt k in_table)

    carried : carries k (phase_of k) ≡ true
    carried = is_true (carries k (phase_of k)) (below (λ (j : ℕ). carries j (phase_of j)) items tt k in_table)

    -- of item k the present value is shown
    abbrev Fresh : ℕ → Type 0
    Fresh m = (a : ℕ) × (shown_of k (W m r h) ≡ known (held r k) (frames a))

    present : (m : ℕ) (r0 : Rig) → 3 ≤ m → back (born_of k) (B m r).sending.next (W (suc m) r h) ≡ from r0 → held r0 k ≡ held r k
    present m r0 l e = let b : born_of k ≤ 3 = born-3 in inside (born_of k) (B m r).sending.next (suc m) k r0 (omega arith) e

    brings : (m : ℕ) → 3 ≤ m → (B m r).sending.next ≡ phase_of k → Fresh (suc m)
    unfolding shown_of brought
    brings m l e =
        let b : born_of k ≤ 3 = born-3 in
        let p : born_of k ≤ phase_of k = born_phase in
        let t : (r0 : Rig) × (back (born_of k) (B m r).sending.next (W (suc m) r h) ≡ from r0) =
        there (born_of k) (B m r).sending.next m (omega arith) (omega (arith, e)) refl in
        let c : carries k (B m r).sending.next ≡ true = ap (carries k) e ∙ carried in
        (born_of k, rw (c, t.1) (ap (λ (v : ℕ). known v (frames (born_of k))) (present m t.0 l t.1)))

    stays : (m : ℕ) → 3 ≤ m → Fresh m → Fresh (suc m)
    unfolding shown_of brought
    stays m l f = go (carries k (B m r).sending.next) (back (born_of k) (B m r).sending.next (W (suc m) r h)) refl
      where
        go : (c : Bool) (x : Run) → back (born_of k) (B m r).sending.next (W (suc m) r h) ≡ x
            → (a : ℕ) × (latest_of (pick c (born k x) None) (shown_of k (W m r h)) ≡ known (held r k) (frames a))
        go false x e = (min 65535 (f.0 + 1), ap aged_of f.1)
        go true broken e = (min 65535 (f.0 + 1), ap aged_of f.1)
        go true (from r0) e = (born_of k, ap (λ (v : ℕ). known v (frames (born_of k))) (present m r0 l e))

    -- the slot, at least the fourth, at which the index is the one that brings item k
    due : ℕ
    due = 3 + (phase_of k + 61 - r.sending.next) % 32

    window : Fresh 35
    unfolding due
    window =
        let p : phase_of k < 32 = phase_32 in
        let n : (B due r).sending.next ≡ (r.sending.next + due) % 32 = b_next due in
        le_ind {n = suc due} Fresh (brings due (omega arith) (omega (arith, n))) (λ m l f. stays m (omega arith) f) 35 (omega arith)

-- if 35 slots in a row are built and arrive whole with nothing else happening, every item is shown and equals the rig's present one
pub thirty_five : (es : List Turn) (k : ℕ) → k < items
    → (age : Frames) × (shows (run proved (run proved (start proved) es) (replicate 35 arrives)).desk k
    ≡ known (held (run proved (run proved (start proved) es) (replicate 35 arrives)).rig k) age)
thirty_five es k l =
    let w : World = run proved (start proved) es in
    let f : (a : ℕ) × (shown_of k (W 35 w.rig w.past) ≡ known (held w.rig k) (frames a)) =
    window w.rig w.past (good w.rig (after es).made).next k l in (
      frames f.0,
      (runs w (replicate 35 arrives) (after es)).shown k l ∙ ap (shown_of k) (past 35 w) ∙ f.1
          ∙ ap (λ (v : ℕ). known v (frames f.0)) (sym (ap (λ (r : Rig). held r k) (rig 35 w) ∙ b_held 35 k w.rig)),
    )
