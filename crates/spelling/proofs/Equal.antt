-- `same` is true of equal texts and of no others.
-- Assumes nothing.
use mathlib.Core.Path.{◌≡◌, refl, sym, ap, ◌∙◌}
use mathlib.Core.Bool.{Bool, true, true≢false}
use mathlib.Core.List.{List, [], ◌∷◌}
use Prim.Native.Nat.{ℕ}
use borrow.Author.Tests.{eq-eqb, eqb-true}
use lib.Dec.{eqb}
use lib.Pointwise.{pointwise, bytes_decides}
use Rattle.base.proofs.Cases.{split}
use Rattle.spelling.specs.Same.{same}

pub same_refl : (s : List ℕ) → same s s ≡ true
same_refl [] = refl
same_refl (x ∷ s) = rw (eq-eqb x x refl) (same_refl s)

pub same_equal : (s t : List ℕ) → same s t ≡ true → s ≡ t
same_equal [] [] h = refl
same_equal [] (y ∷ t) h = let z : [] ≡ y ∷ t = cc in z
same_equal (x ∷ s) [] h = let z : x ∷ s ≡ [] = cc in z
same_equal (x ∷ s) (y ∷ t) h =
    split (eqb x y)
    (λ e. let k = same_equal s t (simp e at h) in let m = eqb-true x y e in cc)
    (λ e. let k = simp e at h in cc)

-- an answer that is true of equal texts and of no others is `same`
pub by_equal : (s t : List ℕ) (r : Bool) → (r ≡ true → s ≡ t) → (s ≡ t → r ≡ true) → r ≡ same s t
by_equal s t r only if =
    split (same s t) (λ e. if (same_equal s t e) ∙ sym e)
    (λ e. split r (λ y. absurd (true≢false (sym (same_refl t) ∙ ap (λ (u : List ℕ). same u t) (sym (only y)) ∙ e))) (λ n. n ∙ sym e))

-- what `==` answers at two texts
pub by_pairs : (s t : List ℕ) (r : Bool) → r ≡ pointwise eqb s t → r ≡ same s t
by_pairs s t r told = let d = bytes_decides s t in by_equal s t r (λ e. d.0 (sym told ∙ e)) (λ e. told ∙ d.1 e)
