-- What a line asks for, by the number of its words.
-- Assumes nothing.
use Rattle.std.specs.Prelude.{Some, None, Err}
use mathlib.Core.Path.{◌≡◌, refl, sym, ap, ◌∙◌}
use mathlib.Core.Bool.{Bool, true, false}
use mathlib.Core.List.{List, [], ◌∷◌}
use Prim.Native.Nat.{ℕ, ◌+◌, ◌-◌}
use native.Mathlib.Nat.{add-zero}
use native.Mathlib.Omega.{arith}
use borrow.Author.Tests.{eq-eqb, ne_eqb}
use lib.Dec.{ltb}
use lib.ListN.{length, get_or, drop, length-drop}
use lib.Seq.{get_or-drop}
use Rattle.base.specs.Pick.{pick}
use Rattle.numerals.specs.Hex.{word_of}
use Rattle.numerals.specs.Shapes.{Word}
use Rattle.wording.specs.declared.Refusal.TheVariants.{NotOne}
use Rattle.wording.specs.Shapes.{Meant}
use Rattle.wording.specs.Meaning.{read_of}
use Rattle.menu_names.specs.Names.{name_words}
use Rattle.menu_rows.specs.Rows.{wanted}
use Rattle.asking.specs.declared.Asked.TheVariants.{NotRead}
use Rattle.asking.specs.Asks.{setting_in, ordered_of, order_of, value_of, is_word, all_words, four_hex, meant_of}

-- words in hex
pub one_word : (ws : List (List ℕ)) (a : ℕ) → length ws ≡ 1 → word_of (get_or ws 0 []) ≡ Some a → read_of (a ∷ []) ≡ meant_of ws
unfolding meant_of
one_word [] a n e = absurd (omega arith)
one_word (w ∷ []) a n e = rw e
one_word (w ∷ v ∷ ws) a n e = absurd (omega arith)

four_by : (a : ℕ) (x y z : Word)
    → four_hex a x y z
    ≡ pick (pick (is_word x) (pick (is_word y) (pick (is_word z) true false) false) false) (read_of (a ∷ value_of x ∷ value_of y ∷ value_of z ∷ [])) (Err NotOne)
four_by a (Some x) (Some y) (Some z) = refl
four_by a (Some x) (Some y) None = refl
four_by a (Some x) None z = refl
four_by a None y z = refl

pub four_words : (ws : List (List ℕ)) (a : ℕ) → length ws ≡ 4 → word_of (get_or ws 0 []) ≡ Some a
    → four_hex a (word_of (get_or ws 1 [])) (word_of (get_or ws 2 [])) (word_of (get_or ws 3 [])) ≡ meant_of ws
unfolding meant_of
four_words [] a n e = absurd (omega arith)
four_words (p ∷ []) a n e = absurd (omega arith)
four_words (p ∷ q ∷ []) a n e = absurd (omega arith)
four_words (p ∷ q ∷ r ∷ []) a n e = absurd (omega arith)
four_words (p ∷ q ∷ r ∷ s ∷ []) a n e = rw e (four_by a (word_of q) (word_of r) (word_of s))
four_words (p ∷ q ∷ r ∷ s ∷ t ∷ ws) a n e = absurd (omega arith)

either : (b : Bool) (m : Meant) → m ≡ pick b m m
either true m = refl
either false m = refl

pub other_words : (ws : List (List ℕ)) → (length ws ≡ 1 → ⊥) → (length ws ≡ 4 → ⊥) → Err NotOne ≡ meant_of ws
unfolding meant_of
other_words [] n m = refl
other_words (p ∷ []) n m = absurd (n refl)
other_words (p ∷ q ∷ []) n m = either (all_words (p ∷ q ∷ [])) (Err NotOne)
other_words (p ∷ q ∷ r ∷ []) n m = either (all_words (p ∷ q ∷ r ∷ [])) (Err NotOne)
other_words (p ∷ q ∷ r ∷ s ∷ []) n m = absurd (m refl)
other_words (p ∷ q ∷ r ∷ s ∷ t ∷ ws) n m = either (all_words (p ∷ q ∷ r ∷ s ∷ t ∷ ws)) (Err NotOne)

-- the settings behind a name of n words
module _ (row n w : ℕ) (ws : List (List ℕ)) (named : n ≡ length (name_words row)) (takes : w ≡ wanted row) where
  size : length (drop (length (name_words row)) ws) ≡ length ws - n
  size = rw (← named) (length-drop n ws)

  pub as_many : length ws - n ≡ w
      → ordered_of row (setting_in (ltb 0 w) (get_or ws n [])) (setting_in (ltb 1 w) (get_or ws (n + 1) [])) ≡ order_of row (drop (length (name_words row)) ws)
  unfolding order_of
  as_many h =
      let e = eq-eqb (length (drop (length (name_words row)) ws)) (wanted row) (size ∙ h ∙ takes) in
      let f : get_or (drop (length (name_words row)) ws) 0 [] ≡ get_or ws n [] = rw (← named) (get_or-drop n ws 0 [] ∙ ap (λ (k : ℕ). get_or ws k []) (add-zero n)) in
      let g : get_or (drop (length (name_words row)) ws) 1 [] ≡ get_or ws (n + 1) [] = rw (← named) (get_or-drop n ws 1 []) in
      rw (e, f, g, sym takes)

  pub more_or_fewer : (length ws - n ≡ w → ⊥) → NotRead ≡ order_of row (drop (length (name_words row)) ws)
  unfolding order_of
  more_or_fewer h =
      let e = ne_eqb (length (drop (length (name_words row)) ws)) (wanted row) (λ q. h (sym size ∙ q ∙ sym takes)) in
      rw e
