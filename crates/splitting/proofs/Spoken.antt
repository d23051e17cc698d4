-- A line that is made of words has those words.
-- Assumes nothing.
use mathlib.Core.Path.{◌≡◌, refl, ap, ◌∙◌, subst}
use mathlib.Core.Bool.{Bool, true, not}
use mathlib.Core.List.{List, [], ◌∷◌, ◌++◌, append_assoc, append-nil}
use Prim.Native.Nat.{ℕ, zero, suc, ◌<◌}
use native.Mathlib.Omega.{arith}
use borrow.Author.Tests.{eq-eqb, ne_eqb, ltb-true}
use lib.Dec.{T, eqb, ltb}
use lib.ListN.{length, replicate}
use Rattle.base.proofs.Table.{both, both_left, both_right, is_true}
use Rattle.splitting.specs.Words.{space, stretches, words_of, spoken, NoSpace, Spellable}

-- bytes with no space go to the word in hand
carried : (w s held : List ℕ) → NoSpace w → stretches held (w ++ s) ≡ stretches (held ++ w) s
carried [] s held h = rw (append-nil held)
carried (b ∷ w) s held h =
    rw (ne_eqb b space h.0) (carried w s (held ++ (b ∷ [])) h.1 ∙ rw (append_assoc held (b ∷ []) w))

pub first_word : (w rest : List ℕ) → 0 < length w → NoSpace w → words_of (w ++ (space ∷ rest)) ≡ w ∷ words_of rest
first_word w rest k h = carried w (space ∷ rest) [] h ∙ rw (ne_eqb (length w) 0 (λ e. omega arith))

pub last_word : (w : List ℕ) → 0 < length w → NoSpace w → words_of w ≡ w ∷ []
last_word w k h = ap words_of (append-nil' w) ∙ carried w [] [] h ∙ rw (ne_eqb (length w) 0 (λ e. omega arith))
  where
    append-nil' : (l : List ℕ) → l ≡ l ++ []
    append-nil' l = rw (append-nil l)

pub spoken_back : (words : List (List ℕ)) → Spellable words → words_of (spoken words) ≡ words
spoken_back [] h = refl
spoken_back (w ∷ []) h = last_word w h.0 h.1
spoken_back (w ∷ v ∷ words) h =
    first_word w (spoken (v ∷ words)) h.0 h.1 ∙ ap (λ (r : List (List ℕ)). w ∷ r) (spoken_back (v ∷ words) h.2)

-- blanks behind the words change nothing
blanks : (n : ℕ) → words_of (replicate n space) ≡ []
blanks zero = refl
blanks (suc n) = blanks n

pub padded_back : (words : List (List ℕ)) (n : ℕ) → Spellable words → words_of (spoken words ++ replicate n space) ≡ words
padded_back [] n h = blanks n
padded_back (w ∷ []) zero h = rw (append-nil w) (last_word w h.0 h.1)
padded_back (w ∷ []) (suc n) h = first_word w (replicate n space) h.0 h.1 ∙ ap (λ (r : List (List ℕ)). w ∷ r) (blanks n)
padded_back (w ∷ v ∷ words) n h =
    rw (append_assoc w (space ∷ spoken (v ∷ words)) (replicate n space))
    (first_word w (spoken (v ∷ words) ++ replicate n space) h.0 h.1 ∙ ap (λ (r : List (List ℕ)). w ∷ r) (padded_back (v ∷ words) n h.2))

-- whether words have a byte at least and no space in them: for words that are written out
abbrev no_space : List ℕ → Bool
no_space [] = true
no_space (b ∷ word) = both (not (eqb b space)) (no_space word)

abbrev pub can_spell : List (List ℕ) → Bool
can_spell [] = true
can_spell (w ∷ words) = both (ltb 0 (length w)) (both (no_space w) (can_spell words))

no_space_lem : (w : List ℕ) → T (no_space w) → NoSpace w
no_space_lem [] t = tt
no_space_lem (b ∷ w) t =
    (λ e. subst (λ (x : Bool). T (not x)) (eq-eqb b space e) (both_left (not (eqb b space)) (no_space w) t), no_space_lem w (both_right (not (eqb b space)) (no_space w) t))

pub spellable : (words : List (List ℕ)) → T (can_spell words) → Spellable words
spellable [] t = tt
spellable (w ∷ words) t =
    let r = both_right (ltb 0 (length w)) (both (no_space w) (can_spell words)) t in (
      ltb-true 0 (length w) (is_true _ (both_left (ltb 0 (length w)) (both (no_space w) (can_spell words)) t)),
      no_space_lem w (both_left (no_space w) (can_spell words) r),
      spellable words (both_right (no_space w) (can_spell words) r),
    )
