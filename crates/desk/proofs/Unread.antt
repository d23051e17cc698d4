-- Of two whole frames that differ in unread bits alone the desk makes the same: each reading is, and what is half read.
-- Assumes nothing.
use Rattle.std.specs.Prelude.{None}
use mathlib.Core.Path.{◌≡◌, refl, sym, ap, ◌∙◌}
use mathlib.Core.Bool.{Bool, true, false, ◌||◌}
use mathlib.Core.List.{List}
use Prim.Native.Nat.{ℕ, ◌<◌}
use native.Mathlib.Omega.{arith}
use lib.Dec.{eqb, ltb}
use borrow.Author.Tests.{eqb-true, ltb-true, lt-ltb}
use Rattle.base.specs.Pick.{pick}
use Rattle.base.specs.Counts.{frames}
use Rattle.base.proofs.Cases.{split}
use Rattle.frame.specs.Items.{items}
use Rattle.frame.specs.Read.{index_of, phase_of, born_of, is_plain}
use Rattle.frame.specs.Laws.{spreads, byte39, Alike}
use Rattle.frame.proofs.Tells.{pick_same}
use Rattle.frame.proofs.Rows.{spread_rows}
use Rattle.frame.proofs.Unread.{index_same, read_same, spread_same}
use Rattle.half.specs.Shapes.{Half}
use Rattle.desk.specs.declared.Desk.{Desk}
use Rattle.half.specs.Half.{born_at, grown_of, kept_at, partly}
use Rattle.bringing.specs.Bringing.{plain_of}
use Rattle.desk.specs.Desk.{reading_of, half_after, heard_of}
use Rattle.cells.proofs.Cells.{cells_same}
use Rattle.desk.proofs.Readings.{plain_is, spread_is, once}

-- a frame after which a number is half read is one of that number's
partly_spreads : (i : ℕ) → partly i ≡ true → spreads i ≡ true
partly_spreads i e =
    split (ltb i 3) (λ t. let h : i < 3 = ltb-true _ _ t in rw (lt-ltb i 4 (omega arith)))
    (λ t. ap spreads (eqb-true i 27 (sym (ap (λ (b : Bool). b || eqb i 27) t) ∙ e)))

module _ (f g : List ℕ) (a : Alike f g) (half : Half) where
  -- a choice that looks at byte 39 only where it is a spread number's
  by_spread : {A : Type 0} (t : ℕ → Bool) (x : ℕ → ℕ → A) (y : A) → ((i : ℕ) → t i ≡ true → spreads i ≡ true)
      → pick (t (index_of f)) (x (index_of f) (byte39 f)) y ≡ pick (t (index_of g)) (x (index_of g) (byte39 g)) y
  by_spread t x y h =
      pick_same (t (index_of f)) (λ e. ap (x (index_of f)) (spread_same f g a (h (index_of f) e))) (λ e. refl)
      ∙ ap (λ (i : ℕ). pick (t i) (x i (byte39 g)) y) (index_same f g a)

  spread_row : (k : ℕ) → k < items → is_plain k ≡ false → reading_of half f k ≡ reading_of half g k
  spread_row k h n =
      sym (spread_is half f (index_of f) (byte39 f) k refl refl (once k h n) n)
      ∙ by_spread (λ (i : ℕ). eqb i (phase_of k)) (λ (i b : ℕ). born_at (frames (born_of k)) (grown_of half i b)) None
      (λ i e. ap spreads (eqb-true i (phase_of k) e) ∙ spread_rows (λ k. spreads (phase_of k) ≡ true) refl refl k h n)
      ∙ spread_is half g (index_of g) (byte39 g) k refl refl (once k h n) n

  reading_same : (k : ℕ) → k < items → reading_of half f k ≡ reading_of half g k
  reading_same k h =
      split (is_plain k)
      (λ t. sym (plain_is half f k a.first.forty t) ∙ ap plain_of (read_same f g a k) ∙ plain_is half g k a.second.forty t) (spread_row k h)

  half_same : half_after half f ≡ half_after half g
  unfolding half_after
  half_same = by_spread partly (λ (i b : ℕ). kept_at i (grown_of half i b)) None partly_spreads

pub heard_same : (d : Desk) (f g : List ℕ) → Alike f g → heard_of d f ≡ heard_of d g
heard_same d f g a =
    rw (cells_same (reading_of d.half f) (reading_of d.half g) d.cells (reading_same f g a d.half), half_same f g a d.half)
