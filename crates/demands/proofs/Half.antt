-- What is half read, computed from the history; what the rig has latched; and what a frame then brings.
-- Assumes nothing.
use Rattle.std.specs.Prelude.{Some, None}
use mathlib.Core.Path.{◌≡◌, refl, ◌∙◌, sym, ap, subst}
use mathlib.Core.Bool.{Bool, true, false, ◌||◌}
use mathlib.Core.List.{List, [], ◌∷◌}
use Prim.Native.Nat.{ℕ, zero, suc, ◌+◌, ◌*◌, ◌/◌, ◌%◌, ◌-◌, ◌<◌, ◌≤◌}
use native.Mathlib.Omega.{arith}
use native.Mathlib.Decide.{ℕ_discrete}
use native.Mathlib.Nat.{mod-eq_of_lt}
use lib.Dec.{eqb, ltb}
use lib.ListN.{get_or}
use borrow.Author.Tests.{eq-eqb, ne_eqb, eqb-true, ltb-true}
use Rattle.base.specs.Pick.{pick}
use Rattle.base.specs.Counts.{frames}
use Rattle.base.proofs.Cases.{split}
use Rattle.frame.specs.declared.Item.TheVariants.{LongCounter, FreeTime}
use Rattle.frame.specs.Items.{items, row_of}
use Rattle.frame.specs.Read.{carries, born_of, rem_of, is_plain, index_of, field_of}
use Rattle.frame.specs.Write.{latch_of, mux_of, frame_of}
use Rattle.frame.proofs.Rows.{plain_born, spread_rows}
use Rattle.frame.proofs.Back.{field_back}
use Rattle.cell.specs.Shapes.{Shown, known}
use Rattle.half.specs.Shapes.{SoFar, Half, part}
use Rattle.half.specs.Half.{grown_of, joined, kept_at, partly, half_at, born_at}
use Rattle.desk.specs.Desk.{half_after, reading_of}
use Rattle.rig.specs.declared.Rig.{Rig}
use Rattle.sending.specs.Sending.{held_of, next_latch, sent, next_frame}
use Rattle.demands.specs.History.{held, Slot, missed, whole}
use Rattle.demands.proofs.Shown.{Run, broken, from, back, born, brought, back_one, back_more, no_run}

-- what a rig that a run has reached keeps, and a frame needs
pub record Good (r : Rig) : Type 0 where
  pub next : r.sending.next ≤ 31
  pub latch : r.sending.latch < 0x100000000
  pub long : r.edbs.0 < 0x100000000
  pub free : r.panel.free < 0x10000
  pub widths : (k : ℕ) → is_plain k ≡ true → held r k < rem_of k

-- the number that frame i belongs to; how much of it the frames up to i have brought; how many came before i
abbrev pub spread_of : ℕ → Rig → ℕ
spread_of i r = pick (ltb i 4) r.edbs.0 r.panel.free

abbrev pub part_of : ℕ → Rig → ℕ
part_of i r =
    pick (eqb i 0) (r.edbs.0 / 256 / 256 / 256)
    (pick (eqb i 1) (r.edbs.0 / 256 / 256)
    (pick (eqb i 2) (r.edbs.0 / 256)
    (pick (eqb i 3) r.edbs.0
    (pick (eqb i 27) (r.panel.free / 256) r.panel.free))))

abbrev pub more_of : ℕ → ℕ
more_of i = pick (ltb i 4) i (i - 27)

abbrev pub half_from : ℕ → Run → Half
half_from i broken = None
half_from i (from r) = part (i + 1) (part_of i r)

abbrev pub half_of : List Slot → Half
half_of [] = None
half_of (missed ∷ h) = None
half_of (whole r ∷ h) =
    pick (partly r.sending.next) (half_from r.sending.next (back (more_of r.sending.next) r.sending.next (whole r ∷ h))) None

-- the rig has latched the number that the next frame goes on with
abbrev pub Linked : Rig → List Slot → Type 0
Linked r h = (j : ℕ) → partly j ≡ true → r.sending.next ≡ j + 1 → (r0 : Rig) → back (more_of j) j h ≡ from r0 → r.sending.latch ≡ spread_of j r0

on_partly : (P : ℕ → Type 0) → P 0 → P 1 → P 2 → P 27 → (j : ℕ) → partly j ≡ true → P j
on_partly P p0 p1 p2 p27 j e = go (ltb j 3) refl
  where
    small : (j : ℕ) → j < 3 → P j
    small zero h = p0
    small (suc zero) h = p1
    small (suc (suc zero)) h = p2
    small (suc (suc (suc n))) h = absurd (omega arith)

    go : (b : Bool) → ltb j 3 ≡ b → P j
    go true t = small j (ltb-true _ _ t)
    go false t = subst P (sym (eqb-true j 27 (sym (ap (λ (b : Bool). b || eqb j 27) t) ∙ e))) p27

back_other : (n i : ℕ) (r : Rig) (h : List Slot) → eqb r.sending.next i ≡ false → back n i (whole r ∷ h) ≡ broken
unfolding back
back_other zero i r h e = rw e
back_other (suc n) i r h e = rw e

abbrev grew_from : ℕ → ℕ → Run → SoFar
grew_from j b broken = None
grew_from j b (from r) = Some (part_of j r % 0x1000000 * 256 + b)

same : (j b : ℕ) (x : Run) → joined (half_from j x) (j + 1) b ≡ grew_from j b x
same j b broken = refl
same j b (from r) = rw (eq-eqb (j + 1) (j + 1) refl)

-- (over a function f of the index, since `rw` by the rig's own index would rewrite inside the rig itself)
here : (f : ℕ → Run) (i j b : ℕ) → i ≡ j → partly j ≡ true → joined (pick (partly i) (half_from i (f i)) None) (j + 1) b ≡ grew_from j b (f j)
here f i j b q e = rw (q, e) (same j b (f j))

other : (p : Bool) (i j b : ℕ) (x : Run) → ¬ (i ≡ j) → joined (pick p (half_from i x) None) (j + 1) b ≡ None
other false i j b x q = refl
other true i j b broken q = refl
other true i j b (from r) q = rw (ne_eqb (i + 1) (j + 1) (λ e. q (omega arith)))

join : (j b : ℕ) (h : List Slot) → partly j ≡ true → joined (half_of h) (j + 1) b ≡ grew_from j b (back (more_of j) j h)
join j b [] e = unfold back in refl
join j b (missed ∷ h) e = unfold back in refl
join j b (whole r ∷ h) e =
    let n = r.sending.next in
    elim (ℕ_discrete n j) [
      | yes q ↦ here (λ (i : ℕ). back (more_of i) i (whole r ∷ h)) n j b q e
      | no q ↦ other (partly n) n j b (back (more_of n) n (whole r ∷ h)) q ∙ sym (ap (grew_from j b) (back_other (more_of j) j r h (ne_eqb _ _ q)))
    ]

-- what frame i makes of the number it belongs to
abbrev grew : ℕ → Run → SoFar
grew i broken = None
grew i (from r) = Some (part_of i r)

kept_grew : (i : ℕ) (x : Run) → kept_at i (grew i x) ≡ half_from i x
kept_grew i broken = refl
kept_grew i (from r) = refl

born_grew_3 : (x : Run) → born_at (frames 3) (grew 3 x) ≡ born (row_of LongCounter) x
born_grew_3 broken = refl
born_grew_3 (from r) = refl

born_grew_28 : (x : Run) → born_at (frames 1) (grew 28 x) ≡ born (row_of FreeTime) x
born_grew_28 broken = refl
born_grew_28 (from r) = refl

abbrev long_in : Run → ℕ
long_in broken = 0
long_in (from r) = r.edbs.0

abbrev free_in : Run → ℕ
free_in broken = 0
free_in (from r) = r.panel.free

-- the next byte of a number of which the first bytes are there
module _ (r : Rig) (h : List Slot) (g : Good r) (l : Linked r h) where
  -- the latch, and byte 39, of the rig's next frame, were its index i
  abbrev L : ℕ → ℕ
  L i = latch_of (held_of r) i r.sending.latch

  abbrev M : ℕ → ℕ
  M i = mux_of (held_of r) (L i) i

  go_on : (j b : ℕ) → partly j ≡ true → r.sending.next ≡ j + 1
      → ((r0 : Rig) → r.sending.latch ≡ spread_of j r0 → part_of j r0 % 0x1000000 * 256 + b ≡ part_of (j + 1) r0)
      → joined (half_of h) (j + 1) b ≡ grew (j + 1) (back (more_of j) j h)
  go_on j b e n a = join j b h e ∙ go (back (more_of j) j h) refl
    where
      go : (x : Run) → back (more_of j) j h ≡ x → grew_from j b x ≡ grew (j + 1) x
      go broken q = refl
      go (from r0) q = ap Some (a r0 (l j e n r0 q))

  abbrev Grows : ℕ → Type 0
  Grows i = r.sending.next ≡ i → grown_of (half_of h) i (M i) ≡ grew i (back (more_of i) i (whole r ∷ h))

  grow_0 : Grows 0
  unfolding mux_of
  grow_0 n =
      let e : r.edbs.0 / 256 / 256 / 256 % 256 ≡ r.edbs.0 / 256 / 256 / 256 = omega (arith, g.long) in
      ap Some e ∙ sym (ap (grew 0) (back_one 0 r h n))

  grow_27 : Grows 27
  unfolding mux_of
  grow_27 n =
      let e : r.panel.free / 256 % 256 ≡ r.panel.free / 256 = omega (arith, g.free) in
      ap Some e ∙ sym (ap (grew 27) (back_one 27 r h n))

  grow_1 : Grows 1
  unfolding mux_of
  grow_1 n = go_on 0 _ refl n (λ r0 q. omega (arith, g.latch)) ∙ sym (ap (grew 1) (back_more 0 1 r h n))

  grow_2 : Grows 2
  unfolding mux_of
  grow_2 n = go_on 1 _ refl n (λ r0 q. omega (arith, g.latch)) ∙ sym (ap (grew 2) (back_more 1 2 r h n))

  grow_3 : Grows 3
  unfolding mux_of
  grow_3 n = go_on 2 _ refl n (λ r0 q. omega (arith, g.latch)) ∙ sym (ap (grew 3) (back_more 2 3 r h n))

  grow_28 : Grows 28
  unfolding mux_of
  grow_28 n = go_on 27 _ refl n (λ r0 q. omega (arith, g.latch)) ∙ sym (ap (grew 28) (back_more 0 28 r h n))

  small : r.sending.next % 32 ≡ r.sending.next
  small = let n : r.sending.next ≤ 31 = g.next in omega arith

  at : (i : ℕ) → eqb (r.sending.next % 32) i ≡ true → r.sending.next ≡ i
  at i e = sym small ∙ eqb-true _ _ e

  index : index_of (next_frame r) ≡ r.sending.next
  unfolding frame_of
  index = let n : r.sending.next ≤ 31 = g.next in omega arith

  byte : get_or (next_frame r) 39 0 ≡ M r.sending.next
  unfolding frame_of
  byte = ap (λ (i : ℕ). mux_of (held_of r) (next_latch r) i) small

  -- what is half read follows the history
  pub half_step : half_after (half_of h) (next_frame r) ≡ half_of (whole r ∷ h)
  unfolding half_after
  half_step =
      ap (λ (i : ℕ). half_at (half_of h) i (get_or (next_frame r) 39 0)) index
      ∙ ap (λ (b : ℕ). half_at (half_of h) r.sending.next b) byte
      ∙ go (partly r.sending.next) refl
    where
      N : ℕ
      N = r.sending.next

      B : ℕ → Run
      B i = back (more_of i) i (whole r ∷ h)

      P : ℕ → Type 0
      P i = r.sending.next ≡ i → kept_at i (grown_of (half_of h) i (M i)) ≡ half_from i (back (more_of i) i (whole r ∷ h))

      go : (b : Bool) → partly r.sending.next ≡ b
          → pick b (kept_at r.sending.next (grown_of (half_of h) r.sending.next (M r.sending.next))) None
          ≡ pick b (half_from r.sending.next (back (more_of r.sending.next) r.sending.next (whole r ∷ h))) None
      go false e = refl
      go true e =
          on_partly P (λ n. ap (kept_at 0) (grow_0 n) ∙ kept_grew 0 (B 0)) (λ n. ap (kept_at 1) (grow_1 n) ∙ kept_grew 1 (B 1))
          (λ n. ap (kept_at 2) (grow_2 n) ∙ kept_grew 2 (B 2)) (λ n. ap (kept_at 27) (grow_27 n) ∙ kept_grew 27 (B 27)) r.sending.next e refl

  -- what the frame shows of each item
  abbrev Reads : ℕ → ℕ → Type 0
  Reads k i =
      pick (is_plain k) (known (field_of (next_frame r) k) (frames 0)) (born_at (frames (born_of k)) (grown_of (half_of h) i (M i)))
      ≡ born k (back (born_of k) i (whole r ∷ h))

  plain : (k : ℕ) → is_plain k ≡ true → born_of k ≡ 0 → field_of (next_frame r) k ≡ held r k → Reads k r.sending.next
  plain k t b f = rw (t, f, b, back_one r.sending.next r h refl, b)

  -- a number that is spread, at its last frame i
  spread : (k i : ℕ) → r.sending.next ≡ i → Reads k i → Reads k r.sending.next
  spread k i n e = subst (Reads k) (sym n) e

  -- the item reads back modulo its width, and fits it
  field : (k : ℕ) → is_plain k ≡ true → carries k r.sending.next ≡ true → field_of (next_frame r) k ≡ held r k
  field k b e =
      field_back (held_of r) r.sending.next (next_latch r) k b (eqb-true _ _ e) ∙ mod-eq_of_lt (g.widths k b)

  abbrev Carried : ℕ → Type 0
  Carried k = carries k r.sending.next ≡ true → Reads k r.sending.next

  long : Carried (row_of LongCounter)
  unfolding is_plain
  long e =
      let n : r.sending.next ≡ 3 = at 3 e in
      spread (row_of LongCounter) 3 n (ap (born_at (frames 3)) (grow_3 n) ∙ born_grew_3 (back 3 3 (whole r ∷ h)))

  free : Carried (row_of FreeTime)
  unfolding is_plain
  free e =
      let n : r.sending.next ≡ 28 = at 28 e in
      spread (row_of FreeTime) 28 n (ap (born_at (frames 1)) (grow_28 n) ∙ born_grew_28 (back 1 28 (whole r ∷ h)))

  value : (k : ℕ) → k < items → Carried k
  value k b e = split (is_plain k) (λ t. plain k t (plain_born k t) (field k t e)) (λ t. spread_rows Carried long free k b t e)

  -- a whole frame shows of each item what the history says that it brings
  pub reads : (k : ℕ) → k < items → reading_of (half_of h) (next_frame r) k ≡ brought k (whole r ∷ h)
  unfolding reading_of brought
  reads k b =
      ap (λ (i : ℕ). pick (carries k i) (seen i (get_or (next_frame r) 39 0)) None) index
      ∙ ap (λ (x : ℕ). pick (carries k r.sending.next) (seen r.sending.next x) None) byte
      ∙ go (carries k r.sending.next) refl
    where
      seen : ℕ → ℕ → Shown
      seen i x = pick (is_plain k) (known (field_of (next_frame r) k) (frames 0)) (born_at (frames (born_of k)) (grown_of (half_of h) i x))

      go : (c : Bool) → carries k r.sending.next ≡ c
          → pick c (seen r.sending.next (M r.sending.next)) None ≡ pick c (born k (back (born_of k) r.sending.next (whole r ∷ h))) None
      go false e = refl
      go true e = value k b e

  -- the rig that has built its frame has latched what the next one goes on with
  pub linked_built : Linked (sent r) (whole r ∷ h)
  linked_built j p =
      on_partly
      (λ (j : ℕ). (r.sending.next + 1) % 32 ≡ j + 1 → (r0 : Rig) → back (more_of j) j (whole r ∷ h) ≡ from r0 → L r.sending.next ≡ spread_of j r0)
      (λ n r0 q.
      let m : r.sending.next ≡ 0 = omega (arith, g.next) in ap L m ∙ ap (λ (x : Run). long_in x) (sym (back_one 0 r h m) ∙ q))
      (λ n r0 q.
      let m : r.sending.next ≡ 1 = omega (arith, g.next) in
      ap L m ∙ l 0 refl m r0 (sym (back_more 0 1 r h m) ∙ q))
      (λ n r0 q.
      let m : r.sending.next ≡ 2 = omega (arith, g.next) in
      ap L m ∙ l 1 refl m r0 (sym (back_more 1 2 r h m) ∙ q))
      (λ n r0 q.
      let m : r.sending.next ≡ 27 = omega (arith, g.next) in
      ap L m ∙ ap (λ (x : Run). free_in x) (sym (back_one 27 r h m) ∙ q))
      j p

pub linked_missed : (r : Rig) (h : List Slot) → Linked r (missed ∷ h)
unfolding back
linked_missed r h j p n r0 q = absurd (no_run r0 q)
