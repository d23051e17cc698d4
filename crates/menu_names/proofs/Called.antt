-- Whether two words name a row, by the number of its name's words.
-- Assumes nothing.
use mathlib.Core.Path.{◌≡◌, refl}
use mathlib.Core.Bool.{true, false}
use mathlib.Core.List.{List, [], ◌∷◌}
use Prim.Native.Nat.{ℕ}
use native.Mathlib.Omega.{arith}
use lib.ListN.{length, get_or}
use Rattle.spelling.specs.Same.{same}
use Rattle.menu_names.specs.Names.{called}

module _ (first second : List ℕ) where
  pub no_words : (ws : List (List ℕ)) → length ws ≡ 0 → false ≡ called ws first second
  no_words [] h = refl
  no_words (a ∷ ws) h = absurd (omega arith)

  pub another : (ws : List (List ℕ)) → (length ws ≡ 0 → ⊥) → same first (get_or ws 0 []) ≡ false → false ≡ called ws first second
  another [] h e = refl
  another (a ∷ []) h e = rw e
  another (a ∷ b ∷ ws) h e = rw e

  pub other_word : (ws : List (List ℕ)) → same first (get_or ws 0 []) ≡ false → false ≡ called ws first second
  other_word [] e = refl
  other_word (a ∷ ws) e = another (a ∷ ws) (λ h. omega arith) e

  pub one_word : (ws : List (List ℕ)) → length ws ≡ 1 → same first (get_or ws 0 []) ≡ true → true ≡ called ws first second
  one_word [] h e = absurd (omega arith)
  one_word (a ∷ []) h e = rw e
  one_word (a ∷ b ∷ ws) h e = absurd (omega arith)

  pub two_words : (ws : List (List ℕ)) → (length ws ≡ 0 → ⊥) → (length ws ≡ 1 → ⊥) → same first (get_or ws 0 []) ≡ true
      → same second (get_or ws 1 []) ≡ called ws first second
  two_words [] h k e = absurd (h refl)
  two_words (a ∷ []) h k e = absurd (k refl)
  two_words (a ∷ b ∷ ws) h k e = rw e
