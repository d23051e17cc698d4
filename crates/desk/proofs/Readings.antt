-- The reading of an item by its kind: plain, or spread over frames.
-- Assumes nothing.
use Rattle.std.specs.Prelude.{Some, None}
use mathlib.Core.Path.{◌≡◌, refl}
use mathlib.Core.Bool.{true, false}
use mathlib.Core.List.{List}
use Prim.Native.Nat.{ℕ, ◌%◌, ◌<◌, ◌≤◌}
use native.Mathlib.Omega.{arith}
use lib.Dec.{ltb, ltb→lt}
use lib.ListN.{length, get_or}
use borrow.Author.Tests.{eq-eqb}
use Rattle.base.specs.Counts.{frames, ceiling}
use Rattle.base.proofs.Cases.{split}
use Rattle.base.proofs.Table.{below}
use Rattle.frame.specs.Items.{items}
use Rattle.frame.specs.Read.{index_of, carries, period_of, phase_of, born_of, is_plain, read_of}
use Rattle.frame.proofs.Rows.{spread_rows}
use Rattle.half.specs.Shapes.{Half}
use Rattle.half.specs.Shapes.{SoFar}
use Rattle.half.specs.Half.{born_at, grown_of, spread_of, half_at}
use Rattle.bringing.specs.Bringing.{plain_of, told_by}
use Rattle.desk.specs.Desk.{reading_of, half_after}
use Rattle.cells.proofs.Cells.{Fits}

-- a plain item is what `frame` reads
pub plain_is : (half : Half) (f : List ℕ) (k : ℕ) → length f ≡ 40 → is_plain k ≡ true → plain_of (read_of f k) ≡ reading_of half f k
unfolding read_of reading_of
plain_is half f k n h = rw (eq-eqb _ _ n, h) (split (carries k (index_of f)) (λ e. rw e refl) (λ e. rw e refl))

-- a spread number comes with the frame that its row names, from the index i and byte 39 b
pub spread_is : (half : Half) (f : List ℕ) (i b k : ℕ) → i ≡ index_of f → b ≡ get_or f 39 0 → period_of k ≡ 32 → is_plain k ≡ false
    → spread_of half i b (phase_of k) (frames (born_of k)) ≡ reading_of half f k
unfolding reading_of
spread_is half f i b k p q t s =
    let m : index_of f % 32 ≡ index_of f = omega arith in
    rw (p, q, s, t, m)

-- a spread number's last frame comes once in 32
pub once : (k : ℕ) → k < items → is_plain k ≡ false → period_of k ≡ 32
once = spread_rows (λ k. period_of k ≡ 32) refl refl

pub reading_is : (half : Half) (f : List ℕ) (i b : ℕ) → length f ≡ 40 → i ≡ index_of f → b ≡ get_or f 39 0
    → (k : ℕ) → k < items → told_by half f i b k ≡ reading_of half f k
reading_is half f i b n p q k h =
    split (is_plain k) (λ t. rw t (plain_is half f k n t)) (λ t. rw t (spread_is half f i b k p q (once k h t) t))

-- what is half read, from the index i and byte 39 b
pub half_is : (half : Half) (f : List ℕ) (i b : ℕ) → i ≡ index_of f → b ≡ get_or f 39 0 → half_at half i b ≡ half_after half f
unfolding half_after
half_is half f i b p q = rw (p, q)

-- no reading is older than a cell can hold
born_fits : (a : ℕ) → a ≤ ceiling → (s : SoFar) → Fits (born_at (frames a) s)
born_fits a h None = tt
born_fits a h (Some v) = h

born_lt : (k : ℕ) → k < items → born_of k < 4
born_lt k h = ltb→lt _ _ (below (λ (j : ℕ). ltb (born_of j) 4) items tt k h)

pub reading_fits : (half : Half) (f : List ℕ) (k : ℕ) → k < items → Fits (reading_of half f k)
unfolding reading_of
reading_fits half f k h =
    split (carries k (index_of f))
    (λ e. rw e (split (is_plain k) (λ t. rw t (omega arith)) (λ t. rw t (born_fits (born_of k) (let l = born_lt k h in omega arith) (grown_of half (index_of f) (get_or f 39 0))))))
    (λ e. rw e tt)
