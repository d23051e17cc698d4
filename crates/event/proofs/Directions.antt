-- The reader of D and the definition of D are each other's inverse, for all 16 values and for every direction that has one.
-- Assumes nothing.
use mathlib.Core.Path.{◌≡◌, refl, ap}
use mathlib.Core.Bool.{◌&&◌}
use mathlib.Core.List.{List, [], ◌∷◌}
use Prim.Native.Nat.{ℕ, ◌+◌, ◌-◌, ◌*◌, ◌<◌}
use native.Mathlib.Omega.{arith}
use borrow.Author.Tests.{lt-ltb, le-ltb}
use lib.Dec.{T, eqb, leb, eqb→eq, leb→le}
use lib.Ieee.Fits.{and_l, and_r}
use Rattle.base.proofs.Table.{below}
use Rattle.event.specs.declared.Direction.{Direction}
use Rattle.event.specs.declared.Direction.TheVariants.{Head, HeadOnly, Unknown}
use Rattle.event.specs.Event.{d_of, has_d, direction_of}

pub reader_inverts : (d : ℕ) → d < 16 → d_of (direction_of d) ≡ d
reader_inverts d h = eqb→eq (d_of (direction_of d)) d (below (λ (k : ℕ). eqb (d_of (direction_of k)) k) 16 tt d h)

pub reader_names : (d : ℕ) → d < 16 → T (has_d (direction_of d))
reader_names d h = below (λ (k : ℕ). has_d (direction_of k)) 16 tt d h

-- G's table of D, row by row
abbrev map : List ℕ → List Direction
map [] = []
map (d ∷ ds) = direction_of d ∷ map ds

pub table_of_g : map (0 ∷ 1 ∷ 2 ∷ 3 ∷ 4 ∷ 5 ∷ 6 ∷ 7 ∷ 8 ∷ 9 ∷ 10 ∷ 11 ∷ 12 ∷ 13 ∷ 14 ∷ 15 ∷ []) ≡
    Head 1 0 ∷ Head 1 1 ∷ Head 1 2 ∷ Head 1 3 ∷ Head 2 0 ∷ Head 2 1 ∷ Head 2 2 ∷ Head 2 3
    ∷ Head 3 0 ∷ Head 3 1 ∷ Head 3 2 ∷ Head 3 3 ∷ HeadOnly 1 ∷ HeadOnly 2 ∷ HeadOnly 3 ∷ Unknown ∷ []
table_of_g = refl

same_head : {h k x y : ℕ} → h ≡ k → x ≡ y → Head h x ≡ Head k y
same_head p q = cc

same_only : {h k : ℕ} → h ≡ k → HeadOnly h ≡ HeadOnly k
same_only p = ap HeadOnly p

pub gives_back : (x : Direction) → T (has_d x) → direction_of (d_of x) ≡ x
gives_back (Head h x) t =
    let u = and_l (leb 1 h && leb h 3) (leb x 3) t in
    let l = leb→le 1 h (and_l (leb 1 h) (leb h 3) u) in
    let m = leb→le h 3 (and_r (leb 1 h) (leb h 3) u) in
    let n = leb→le x 3 (and_r (leb 1 h && leb h 3) (leb x 3) t) in
    simp (lt-ltb (4 * (h - 1) + x) 12 (omega arith)) (same_head (omega arith) (omega arith))
gives_back (HeadOnly h) t =
    let l = leb→le 1 h (and_l (leb 1 h) (leb h 3) t) in
    let m = leb→le h 3 (and_r (leb 1 h) (leb h 3) t) in
    simp (le-ltb (12 + (h - 1)) 12 (omega arith), lt-ltb (12 + (h - 1)) 15 (omega arith)) (same_only (omega arith))
gives_back Unknown t = refl
