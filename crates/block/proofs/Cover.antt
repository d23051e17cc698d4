-- The parts of a kind, with its inner markers and its spares, hold each byte of the block exactly once.
-- One computed test: sorted by their ends, each stretch begins where the one before it ended. Assumes nothing.
use mathlib.Core.Path.{◌≡◌, refl, ◌∙◌}
use mathlib.Core.Bool.{Bool, true, false, not, ◌&&◌}
use mathlib.Core.List.{List, [], ◌∷◌}
use Prim.Native.Nat.{ℕ, ◌+◌, ◌≤◌, ◌<◌}
use native.Mathlib.Omega.{arith}
use borrow.Author.Tests.{ltb-true, ltb-false, lt-ltb, le-ltb, le-leb, lt-leb}
use lib.Dec.{T, eqb, ltb, leb, eqb→eq}
use Rattle.base.proofs.Cases.{split}
use Rattle.base.proofs.Table.{both, both_left, both_right}
use Rattle.base.specs.Pick.{pick}
use Rattle.block.specs.declared.Kind.{Kind}
use Rattle.block.specs.declared.Kind.TheVariants.{Nm, Bm1}
use Rattle.block.specs.declared.Part.{Part}
use Rattle.block.specs.declared.Part.TheVariants.{Sgl0, EPad}
use Rattle.block.specs.Kinds.{length_of}
use Rattle.block.specs.Tables.{among, has}
use Rattle.block.specs.Cover.{Bytes, held_by, holders}
use Rattle.block.proofs.Laws.{every_part}

-- in order of their ends
abbrev insert : Bytes → List Bytes → List Bytes
insert s [] = s ∷ []
insert s (t ∷ ts) = pick (leb (s.0 + s.1) (t.0 + t.1)) (s ∷ t ∷ ts) (t ∷ insert s ts)

abbrev sort : List Bytes → List Bytes
sort [] = []
sort (s ∷ ss) = insert s (sort ss)

-- each begins where the one before it ended, from a to z
abbrev chained : ℕ → ℕ → List Bytes → Bool
chained a z [] = eqb a z
chained a z (s ∷ ss) = both (eqb s.0 a) (chained (a + s.1) z ss)

module _ (k : ℕ) where
  abbrev here : Bytes → ℕ
  here s = pick (leb s.0 k && ltb k (s.0 + s.1)) 1 0

  swap : (s t : Bytes) (b : Bool) (us vs : List Bytes) → holders k us ≡ here s + holders k vs → holders k (pick b (s ∷ t ∷ vs) (t ∷ us)) ≡ here s + (here t + holders k vs)
  swap s t true us vs e = refl
  swap s t false us vs e = omega (arith, e)

  inserted : (s : Bytes) (ss : List Bytes) → holders k (insert s ss) ≡ here s + holders k ss
  inserted s [] = refl
  inserted s (t ∷ ts) = swap s t (leb (s.0 + s.1) (t.0 + t.1)) (insert s ts) ts (inserted s ts)

  sorted : (ss : List Bytes) → holders k (sort ss) ≡ holders k ss
  sorted [] = refl
  sorted (s ∷ ss) = let e = sorted ss in inserted s (sort ss) ∙ omega (arith, e)

  -- nothing in a chain lies before its start, and each byte of it in one stretch
  out : (s : Bytes) → k < s.0 → here s ≡ 0
  out s h = simp (lt-leb s.0 k h)

  past : (s : Bytes) → s.0 + s.1 ≤ k → here s ≡ 0
  past s h = simp (le-leb s.0 k (omega arith), le-ltb k (s.0 + s.1) h)

  in_it : (s : Bytes) → s.0 ≤ k → k < s.0 + s.1 → here s ≡ 1
  in_it s h g = simp (le-leb s.0 k h, lt-ltb k (s.0 + s.1) g)

  before : (ss : List Bytes) (a z : ℕ) → T (chained a z ss) → k < a → holders k ss ≡ 0
  before [] a z t h = refl
  before (s ∷ ss) a z t h =
      let e = eqb→eq s.0 a (both_left (eqb s.0 a) (chained (a + s.1) z ss) t) in
      let o = out s (omega (arith, e)) in
      let r = before ss (a + s.1) z (both_right (eqb s.0 a) (chained (a + s.1) z ss) t) (omega arith) in
      omega (arith, o, r)

  once : (ss : List Bytes) (a z : ℕ) → T (chained a z ss) → a ≤ k → k < z → holders k ss ≡ 1
  once [] a z t h g = let e = eqb→eq a z t in absurd (omega (arith, e))
  once (s ∷ ss) a z t h g =
      let e = eqb→eq s.0 a (both_left (eqb s.0 a) (chained (a + s.1) z ss) t) in
      let u = both_right (eqb s.0 a) (chained (a + s.1) z ss) t in
      split (ltb k (a + s.1))
      (λ l. let m = ltb-true k (a + s.1) l in
      let i = in_it s (omega (arith, e)) (omega (arith, e)) in
      let r = before ss (a + s.1) z u m in
      omega (arith, i, r))
      (λ l. let m = ltb-false k (a + s.1) l in
      let o = past s (omega (arith, e)) in
      let r = once ss (a + s.1) z u m g in
      omega (arith, o, r))

pub cover : (x : Kind) (k : ℕ) → k < length_of x → holders k (held_by x) ≡ 1
cover Nm k h = let e = sorted k (held_by Nm) in let r = once k (sort (held_by Nm)) 0 512 tt (omega arith) h in omega (arith, e, r)
cover Bm1 k h = let e = sorted k (held_by Bm1) in let r = once k (sort (held_by Bm1)) 0 2304 tt (omega arith) h in omega (arith, e, r)

-- NM has all the parts, and BM1 all but SGL0 and E-PAD
alike : (x y : Bool) → T (pick x y (not y)) → x ≡ y
alike true true t = refl
alike true false t = absurd t
alike false true t = absurd t
alike false false t = refl

pub nm_has : (p : Part) → has Nm p ≡ true
nm_has p = alike (has Nm p) true (every_part (λ (q : Part). pick (has Nm q) true false) tt p)

abbrev shared : Part → Bool
shared p = not (among p (Sgl0 ∷ EPad ∷ []))

pub bm1_has : (p : Part) → has Bm1 p ≡ shared p
bm1_has p = alike (has Bm1 p) (shared p) (every_part (λ (q : Part). pick (has Bm1 q) (shared q) (not (shared q))) tt p)
