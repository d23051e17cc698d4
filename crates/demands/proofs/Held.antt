-- The table of what is held is true of ours: computed row by row; and it leaves no two items to be swapped.
-- Assumes nothing.
use mathlib.Core.Path.{◌≡◌, refl, ap, sym, ◌∙◌}
use mathlib.Core.Bool.{Bool, true, false, not, ◌&&◌, ◌||◌, true≢false}
use mathlib.Core.List.{List, [], ◌∷◌}
use Prim.Native.Nat.{ℕ, ◌<◌}
use lib.Dec.{T, eqb, eqb→eq}
use lib.ListN.{get_or}
use borrow.Author.Tests.{eq-eqb, ne_eqb}
use Rattle.base.proofs.Cases.{split}
use Rattle.base.proofs.Table.{both, both_left, both_right, all_below, below}
use Rattle.supply.specs.Rules.{relay_of, targeted, limited, switched}
use Rattle.crc.specs.Crc.{shift, crc_from, crc_of}
use Rattle.judge.specs.Commands.{carried, mode_cmd, single_of, counted_of, block_of}
use Rattle.frame.specs.declared.Item.{Item}
use Rattle.frame.specs.Items.{items, row_of, held_at}
use Rattle.frame.specs.Write.{quarter_of, ground_at, mux_of, frame_of}
use Rattle.frame.proofs.Rows.{row_lt}
use Rattle.rig.specs.declared.Rig.{Rig}
use Rattle.rig.specs.Words.{kind_of, refused_of, settled_of, head_of, fresh_of, verdict_of, closed_of, dropped_of, pending_of, take_with, take_of}
use Rattle.rig.specs.Start.{start_rig}
use Rattle.power.specs.Power.{set_of}
use Rattle.sending.specs.Sending.{held_of}
use Rattle.laws.specs.Runs.{ours}
use Rattle.demands.specs.Outfit.{Outfit, proved}
use Rattle.demands.specs.Held.{doing, Row, table, starts, says, after_frames, Bytes, Every, HeldTable, stands, parts, apart, swapped, Settles}

abbrev held : Rig → ℕ → ℕ
held r k = held_at (held_of r) k

-- tests that compute to true where a row's items and bytes are as it says
abbrev test_bytes : Rig → List (ℕ × (ℕ × ℕ)) → Bool
test_bytes r [] = true
test_bytes r (x ∷ xs) = both (eqb (get_or (proved.frame (after_frames ours x.0 r)) x.1.0 0) x.1.1) (test_bytes r xs)

abbrev test_items : Row → Bool
test_items r = all_below (λ k. eqb (held (doing ours start_rig r.steps) k) (says r k)) items

abbrev test : List Row → Bool
test [] = true
test (r ∷ rs) = both (test_items r) (both (test_bytes (doing ours start_rig r.steps) r.bytes) (test rs))

bytes_of : (r : Rig) (xs : List (ℕ × (ℕ × ℕ))) → T (test_bytes r xs) → Bytes proved r xs
bytes_of r [] t = tt
bytes_of r (x ∷ xs) t =
    let b = eqb (get_or (proved.frame (after_frames ours x.0 r)) x.1.0 0) x.1.1 in
    (eqb→eq _ _ (both_left b (test_bytes r xs) t), bytes_of r xs (both_right b (test_bytes r xs) t))

rows_of : (rs : List Row) → T (test rs) → Every proved held rs
rows_of [] t = tt
rows_of (r ∷ rs) t =
    let rig = doing ours start_rig r.steps in
    let rest = both (test_bytes rig r.bytes) (test rs) in
    let q = both_right (test_items r) rest t in (
      record {
        items = λ item. eqb→eq _ _ (below (λ k. eqb (held rig k) (says r k)) items (both_left (test_items r) rest t) (row_of item) (row_lt item));
        frames = bytes_of rig r.bytes (both_left (test_bytes rig r.bytes) (test rs) q);
      },
      rows_of rs (both_right (test_bytes rig r.bytes) (test rs) q),
    )

computed : T (test table)
unfolding doing after_frames take_of take_with pending_of dropped_of closed_of verdict_of fresh_of head_of settled_of refused_of kind_of block_of counted_of single_of mode_cmd carried relay_of targeted limited switched crc_of crc_from shift set_of frame_of mux_of ground_at quarter_of
computed = tt

pub held_table : HeldTable proved held
held_table = rows_of table computed

is_true : (b : Bool) → T b → b ≡ true
is_true true t = refl
is_true false t = absurd t

apart_or_same : ℕ → ℕ → Bool
apart_or_same i j = eqb i j || apart table i j

pub second : (a b : Bool) → a ≡ false → T (a || b) → b ≡ true
second true b e t = absurd (true≢false e)
second false b e t = is_true b t

any_two : (i j : ℕ) → i < items → j < items → (i ≡ j → ⊥) → apart table i j ≡ true
unfolding apart_or_same
any_two i j h k ne =
    second (eqb i j) (apart table i j) (ne_eqb i j ne) (below (λ b. apart_or_same i b) items (below (λ a. all_below (λ b. apart_or_same a b) items) items tt i h) j k)

-- at a row that tells two items apart, what is held cannot be swapped
parted : (r : Row) (i j : ℕ) → parts r i j ≡ true → says r i ≡ says r j → ⊥
parted r i j e q =
    let moved = not (eqb (says r i) (starts i)) || not (eqb (says r j) (starts j)) in
    true≢false (sym e ∙ ap (λ (b : Bool). not b && moved) (eq-eqb (says r i) (says r j) q))

module _ (o : Outfit) (held : Rig → ℕ → ℕ) (i j : Item) (ne : row_of i ≡ row_of j → ⊥) where
  none_swapped : (rs : List Row) → apart rs (row_of i) (row_of j) ≡ true → Every o held rs → Every o (λ r k. held r (swapped (row_of i) (row_of j) k)) rs → ⊥
  none_swapped [] e t u = true≢false (sym e)
  none_swapped (r ∷ rs) e t u =
      split (parts r (row_of i) (row_of j))
      (λ p.
      let rig = doing o.rig o.rig.start r.steps in
      let s : swapped (row_of i) (row_of j) (row_of i) ≡ row_of j = simp (eq-eqb (row_of i) (row_of i) refl) in
      parted r (row_of i) (row_of j) p (sym (u.0.items i) ∙ ap (held rig) s ∙ t.0.items j))
      (λ p. none_swapped rs (sym (ap (λ (b : Bool). b || apart rs (row_of i) (row_of j)) p) ∙ e) t.1 u.1)

pub settles : Settles
settles =
    record {
      all = λ item. is_true _ (below (λ k. stands table k) items tt (row_of item) (row_lt item));
      any = λ i j ne. any_two (row_of i) (row_of j) (row_lt i) (row_lt j) ne;
      no_swap = λ o held i j ne t u. none_swapped o held i j ne table (any_two (row_of i) (row_of j) (row_lt i) (row_lt j) ne) t u;
    }
