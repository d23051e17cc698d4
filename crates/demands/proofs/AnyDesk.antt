-- What one slot does to any desk holds of ours: by the laws of the desk, and by cases of what is half read.
-- Assumes nothing.
use Rattle.std.specs.Prelude.{Some, None}
use mathlib.Core.Path.{◌≡◌, refl, ap, sym, ◌∙◌}
use mathlib.Core.Bool.{true, false}
use mathlib.Core.List.{List}
use Prim.Native.Nat.{ℕ, ◌<◌}
use native.Mathlib.Omega.{arith}
use lib.Dec.{eqb, ltb}
use lib.ListN.{get_or-replicate}
use Rattle.frame.specs.declared.Item.TheVariants.{LongCounter, FreeTime}
use borrow.Author.Tests.{eqb-true, eqb-false, eq-eqb, le-ltb}
use Rattle.base.specs.Counts.{frames}
use Rattle.base.proofs.Cases.{split}
use Rattle.frame.specs.Items.{items, row_of}
use Rattle.frame.specs.Read.{index_of, field_of, is_plain, carries, phase_of, born_of}
use Rattle.frame.specs.Laws.{byte39}
use Rattle.frame.proofs.Rows.{row_lt}
use Rattle.frame.proofs.Came.{no_other}
use Rattle.desk.specs.declared.Desk.{Desk}
use Rattle.half.specs.Shapes.{Half}
use Rattle.cell.specs.Shapes.{Shown, known}
use Rattle.desk.specs.declared.Received.{Received}
use Rattle.desk.specs.declared.Answer.TheVariants.{Heard}
use Rattle.cell.specs.Cell.{aged_of, latest_of, blank, shown_by}
use Rattle.half.specs.Half.{joined, spread_of, kept_at, half_at}
use Rattle.desk.specs.Desk.{reading_of, half_after, fresh_desk, shows, heard_of, slot_of}
use Rattle.desk.specs.Laws.{answered}
use Rattle.desk.proofs.Readings.{spread_is, once}
use Rattle.desk.proofs.Laws.{laws as desk-laws}
use Rattle.demands.specs.Outfit.{proved}
use Rattle.demands.specs.AnyDesk.{IsWhole, older, completed, replaced, goes_on, half_by, SlotLaws}

-- a whole frame is heard
heard_is : (d : Desk) (f : List ℕ) → IsWhole f → slot_of d f ≡ answered Heard (heard_of d f)
heard_is d f w = desk-laws.whole d f w.forty w.not_c0 w.not_ff

-- what is shown after it, row by row
after_it : (d : Desk) (f : List ℕ) (k : ℕ) → k < items → IsWhole f → shows (slot_of d f).desk k ≡ latest_of (reading_of d.half f k) (shows d k)
after_it d f k h w = ap (λ (t : Received). shows t.desk k) (heard_is d f w) ∙ desk-laws.at_frame d f k h

older_is : (s : Shown) → aged_of s ≡ older s
older_is None = refl
older_is (Some k) = refl

replaced_is : (s t : Shown) → latest_of s t ≡ replaced s t
replaced_is (Some k) t = refl
replaced_is None t = older_is t

plain_reads : (half : Half) (f : List ℕ) (k : ℕ) → is_plain k ≡ true → carries k (index_of f) ≡ true → reading_of half f k ≡ known (field_of f k) (frames 0)
unfolding reading_of
plain_reads half f k h c = rw (c, h)

not_carried : (half : Half) (f : List ℕ) (k : ℕ) → carries k (index_of f) ≡ false → reading_of half f k ≡ None
unfolding reading_of
not_carried half f k c = rw c

-- a number that is complete at the frame of index `last`, which begins none
completed_is : (half : Half) (f : List ℕ) (last a : ℕ) → eqb last 0 ≡ false → eqb last 27 ≡ false
    → spread_of half (index_of f) (byte39 f) last (frames a) ≡ completed half last a f
completed_is None f last a x y =
    split (eqb (index_of f) last) (λ e. let q : index_of f ≡ last = eqb-true _ _ e in rw (q, eq-eqb last last refl, x, y)) (λ e. rw e)
completed_is (Some p) f last a x y =
    split (eqb (index_of f) last)
    (λ e. let q : index_of f ≡ last = eqb-true _ _ e in rw (q, eq-eqb last last refl, x, y) (split (eqb p.next last) (λ g. rw g refl) (λ g. rw g refl)))
    (λ e. rw e)

-- what is kept of a number that goes on
kept_joined : (half : Half) (i b : ℕ) → kept_at i (joined half i b) ≡ goes_on half i b
kept_joined None i b = refl
kept_joined (Some p) i b = split (eqb p.next i) (λ e. rw e refl) (λ e. rw e refl)

half_is : (half : Half) (i b : ℕ) → half_at half i b ≡ half_by half i b
half_is half i b =
    split (eqb i 0) (λ e. let q = eqb-true i 0 e in rw q refl) (λ n.
    split (eqb i 27) (λ e. let q = eqb-true i 27 e in rw q refl) (λ m.
    split (eqb i 1) (λ e. let q = eqb-true i 1 e in rw q (kept_joined half 1 b)) (λ k.
    split (eqb i 2) (λ e. let q = eqb-true i 2 e in rw q (kept_joined half 2 b)) (λ j.
    let l : ltb i 3 ≡ false = le-ltb i 3 (let x = eqb-false i 0 n in let y = eqb-false i 1 k in let z = eqb-false i 2 j in omega arith) in
    rw (n, m, k, j, l) refl))))

-- the desk after a whole frame has half read what it should
after_half : (d : Desk) (f : List ℕ) → IsWhole f → (slot_of d f).desk.half ≡ half_by d.half (index_of f) (byte39 f)
unfolding half_after
after_half d f w = ap (λ (t : Received). t.desk.half) (heard_is d f w) ∙ half_is d.half (index_of f) (byte39 f)

-- a spread number after a whole frame
spread_after : (d : Desk) (f : List ℕ) (k last : ℕ) → k < items → IsWhole f
    → reading_of d.half f k ≡ spread_of d.half (index_of f) (byte39 f) last (frames (born_of k)) → eqb last 0 ≡ false → eqb last 27 ≡ false
    → shows (slot_of d f).desk k ≡ replaced (completed d.half last (born_of k) f) (shows d k)
spread_after d f k last h w e x y =
    after_it d f k h w
    ∙ ap (λ (s : Shown). latest_of s (shows d k)) (e ∙ completed_is d.half f last (born_of k) x y)
    ∙ replaced_is (completed d.half last (born_of k) f) (shows d k)

-- the two rows of the spread numbers
not_long : is_plain (row_of LongCounter) ≡ false
unfolding is_plain
not_long = refl

not_free : is_plain (row_of FreeTime) ≡ false
unfolding is_plain
not_free = refl

spread_reads : (half : Half) (f : List ℕ) (k : ℕ) → k < items → is_plain k ≡ false
    → reading_of half f k ≡ spread_of half (index_of f) (byte39 f) (phase_of k) (frames (born_of k))
spread_reads half f k h n = sym (spread_is half f (index_of f) (byte39 f) k refl refl (once k h n) n)

-- a fresh desk: each of its cells is blank
fresh_shows : (k : ℕ) → k < items → shows fresh_desk k ≡ None
fresh_shows k h = ap shown_by (get_or-replicate items k blank blank h)

pub slot_laws : SlotLaws proved
slot_laws =
    record {
      fresh = λ item. fresh_shows (row_of item) (row_lt item);
      fresh_half = refl;
      plain = λ d f item w h c.
          after_it d f (row_of item) (row_lt item) w ∙ ap (λ (s : Shown). latest_of s (shows d (row_of item))) (plain_reads d.half f (row_of item) h c);
      other = λ d f item w h c.
          after_it d f (row_of item) (row_lt item) w
          ∙ ap (λ (s : Shown). latest_of s (shows d (row_of item))) (not_carried d.half f (row_of item) c)
          ∙ older_is (shows d (row_of item));
      long = λ d f w. spread_after d f (row_of LongCounter) 3 (omega arith) w (spread_reads d.half f (row_of LongCounter) (omega arith) not_long) refl refl;
      free = λ d f w. spread_after d f (row_of FreeTime) 28 (omega arith) w (spread_reads d.half f (row_of FreeTime) (omega arith) not_free) refl refl;
      half = after_half;
      miss = λ d item. desk-laws.at_miss d (row_of item) (row_lt item) ∙ older_is (shows d (row_of item));
      miss_half = λ d. refl;
      unread = λ d f g a v w.
          desk-laws.unread d f g _ _ _ _ a (no_other f v.forty v.not_c0 v.not_ff) (no_other g w.forty w.not_c0 w.not_ff);
    }
