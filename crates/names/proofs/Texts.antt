-- Names of 20 bytes each, one after the other: the one in row k is cut out of the text; and no two rows have one name.
-- Assumes nothing.
use mathlib.Core.Path.{◌≡◌, refl, sym, ap, ◌∙◌}
use mathlib.Core.Bool.{Bool, true, false, true≢false, ◌||◌, not}
use mathlib.Core.List.{List, [], ◌∷◌, ◌++◌}
use Prim.Native.Nat.{ℕ, zero, suc, ◌+◌, ◌*◌, ◌/◌, ◌≤◌, ◌<◌}
use native.Mathlib.Nat.{not-suc-le-zero, le_of_suc-le-suc}
use native.Mathlib.Omega.{arith}
use lib.Dec.{T, eqb}
use lib.ListN.{length, take, drop, get_or, length-append}
use lib.Seq.{take_at, drop_at, drop-drop}
use borrow.Author.Tests.{eqb-true, eq-eqb, lt-ltb}
use Rattle.base.proofs.Cases.{split}
use Rattle.base.proofs.Table.{both, all_below, below, is_true}
use Rattle.names.specs.Names.{name_in}

-- what the last arm of a `match` knows: the number is none of the first n
abbrev pub None : ℕ → ℕ → Type 0
None k zero = Unit
None k (suc n) = None k n × (k ≡ n → ⊥)

pub none : (k n : ℕ) → None k n → n ≤ k
none k zero t = omega arith
none k (suc n) t = let h = none k n t.0 in let q = t.1 in omega arith

-- are two texts the same?
abbrev alike : List ℕ → List ℕ → Bool
alike [] [] = true
alike [] (y ∷ ys) = false
alike (x ∷ xs) [] = false
alike (x ∷ xs) (y ∷ ys) = both (eqb x y) (alike xs ys)

alike_self : (xs : List ℕ) → alike xs xs ≡ true
alike_self [] = refl
alike_self (x ∷ xs) = rw (eq-eqb x x refl) (alike_self xs)

-- a row of the text has its name
in_row : (names : List ℕ) (k : ℕ) → k < length names / 20 → name_in names k ≡ take 20 (drop (20 * k) names)
unfolding name_in
in_row names k h = rw (lt-ltb _ _ h)

module _ {A : Type 0} (name : A → List ℕ) where
  -- the names, one after the other
  abbrev pub text : List A → List ℕ
  text [] = []
  text (x ∷ xs) = name x ++ text xs

  in_text : ((x : A) → length (name x) ≡ 20) → (xs : List A) (d : A) (k : ℕ) → k < length xs → take 20 (drop (20 * k) (text xs)) ≡ name (get_or xs k d)
  in_text room [] d k h = absurd (not-suc-le-zero h)
  in_text room (x ∷ xs) d zero h = take_at (name x) (text xs) 20 (room x)
  in_text room (x ∷ xs) d (suc k) h =
      let n : 20 * suc k ≡ 20 + 20 * k = omega arith in
      ap (λ (m : ℕ). take 20 (drop m (name x ++ text xs))) n
      ∙ ap (take 20) (sym (drop-drop (20 * k) 20 (name x ++ text xs)))
      ∙ ap (λ (t : List ℕ). take 20 (drop (20 * k) t)) (drop_at (name x) (text xs) 20 (room x))
      ∙ in_text room xs d k (le_of_suc-le-suc h)

  length_text : ((x : A) → length (name x) ≡ 20) → (xs : List A) → length (text xs) ≡ 20 * length xs
  length_text room [] = refl
  length_text room (x ∷ xs) =
      let n = length-append (name x) (text xs) in
      let h = length_text room xs in
      let r = room x in
      omega (arith, n, h, r)

  -- the name in the row of x, which is k
  pub named : ((x : A) → length (name x) ≡ 20) → (xs : List A) (d x : A) (i k : ℕ) → k ≡ i → i < length xs → get_or xs i d ≡ x → name_in (text xs) k ≡ name x
  named room xs d x i k e h f =
      let n = length_text room xs in
      rw e (in_row (text xs) i (omega (arith, h, n)) ∙ in_text room xs d i h ∙ ap name f)

  -- two rows, or two names
  module _ (at : ℕ → A) (row : A → ℕ) (found : (x : A) → at (row x) ≡ x) (n : ℕ) (within : (x : A) → row x < n) where
    abbrev pub differ : ℕ → ℕ → Bool
    differ i j = eqb i j || not (alike (name (at i)) (name (at j)))

    pub apart : T (all_below (λ (a : ℕ). all_below (λ (b : ℕ). differ a b) n) n) → (x y : A) → name x ≡ name y → x ≡ y
    apart t x y e =
        split (eqb (row x) (row y)) (λ s. sym (found x) ∙ ap at (eqb-true (row x) (row y) s) ∙ found y)
        (λ f.
        let same : name (at (row x)) ≡ name (at (row y)) = ap name (found x) ∙ e ∙ sym (ap name (found y)) in
        let both-alike : alike (name (at (row x))) (name (at (row y))) ≡ true =
        ap (alike (name (at (row x)))) (sym same) ∙ alike_self (name (at (row x))) in
        let off : differ (row x) (row y) ≡ true =
        is_true (differ (row x) (row y)) (below (λ (b : ℕ). differ (row x) b) n (below (λ (a : ℕ). all_below (λ (b : ℕ). differ a b) n) n t (row x) (within x)) (row y) (within y)) in
        absurd (true≢false (sym off ∙ rw (f, both-alike))))
