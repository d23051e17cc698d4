-- Names and settings as they are put, word by word.
-- Assumes nothing.
use mathlib.Core.Path.{◌≡◌, refl, sym, ap, ◌∙◌, subst}
use mathlib.Core.Bool.{Bool, true, false}
use mathlib.Core.List.{List, [], ◌∷◌, ◌++◌, append_assoc, append-nil}
use Prim.Native.Nat.{ℕ, ◌+◌, ◌≤◌, ◌<◌}
use native.Mathlib.Omega.{arith}
use borrow.Author.Tests.{ltb-true, ltb-false, le-leb}
use lib.Dec.{eqb, ltb}
use lib.ListN.{length, get_or, drop, length-append}
use Rattle.base.specs.Pick.{pick}
use Rattle.base.proofs.Cases.{split}
use Rattle.text.specs.Page.{fitting}
use Rattle.numerals.specs.Decimal.{decimal}
use Rattle.splitting.specs.Words.{space, words_of, spoken}
use Rattle.wording.specs.declared.Command.{Command}
use Rattle.wording.specs.declared.Command.TheVariants.{Relay, Iel, HeadMask, Target, Limit, Mode, Stepping, Multiplexers, DirectionWindow, EnergyWindow}
use Rattle.menu_names.specs.Names.{rows, name_words, name_of}
use Rattle.menu_names.proofs.Rows.{each, words_at, no_name}
use Rattle.menu_rows.specs.Rows.{wanted, entry_of}
use Rattle.menu_rows.proofs.Laws.{in_menu as rows-in-menu}
use Rattle.plain_words.specs.Plain.{numbers_said, plain_of, settings_said}

-- names of one word and of two
pub one_word : (ws : List (List ℕ)) → length ws < 2 → get_or ws 0 [] ≡ spoken ws
one_word [] h = refl
one_word (w ∷ []) h = refl
one_word (w ∷ v ∷ ws) h = absurd (omega arith)

pub two_words : (ws : List (List ℕ)) → 2 ≤ length ws → length ws ≤ 2 → get_or ws 0 [] ++ ((space ∷ []) ++ get_or ws 1 []) ≡ spoken ws
two_words [] h k = absurd (omega arith)
two_words (w ∷ []) h k = absurd (omega arith)
two_words (w ∷ v ∷ []) h k = refl
two_words (w ∷ v ∷ x ∷ ws) h k = absurd (omega arith)

pub two_long : (a b : List ℕ) → length (a ++ ((space ∷ []) ++ b)) ≡ length a + (1 + length b)
two_long a b = simp length-append (omega arith)

-- a name takes twenty bytes at most
pub name_short : (row : ℕ) → length (spoken (name_words row)) ≤ 20
unfolding name_words
name_short row =
    split (ltb row rows)
    (λ e.
    each (λ (k : ℕ). length (spoken (name_words k)) ≤ 20) rows
    (((((((((((((((((((tt, omega arith), omega arith), omega arith), omega arith), omega arith), omega arith), omega arith), omega arith), omega arith), omega arith), omega arith), omega arith), omega arith), omega arith), omega arith), omega arith), omega arith), omega arith), omega arith)
    row (ltb-true row rows e))
    (λ e. rw (no_name row (ltb-false row rows e)) (omega arith))

-- a word of the twenty bytes is a word of the name
pub word_of_name : (row k : ℕ) (name : List ℕ) → name ≡ name_of row → get_or (words_of name) k [] ≡ get_or (name_words row) k []
word_of_name row k name e = ap (λ (x : List ℕ). get_or (words_of x) k []) e ∙ ap (λ (ws : List (List ℕ)). get_or ws k []) (words_at row)

-- where the page has room for it, all of a text is put
pub fitted : (most at : ℕ) (p s : List ℕ) → at + most ≤ length p → fitting most at p s ≡ s
unfolding fitting
fitted most at p s h = rw (le-leb (at + most) (length p) h)

-- words behind others, with a space before each
further : (w : List ℕ) (ws : List (List ℕ)) (v : List ℕ) → spoken ((w ∷ ws) ++ (v ∷ [])) ≡ spoken (w ∷ ws) ++ (space ∷ v)
further w [] v = refl
further w (x ∷ ws) v =
    ap (λ (r : List ℕ). w ++ (space ∷ r)) (further x ws v) ∙ sym (append_assoc w (space ∷ spoken (x ∷ ws)) (space ∷ v))

pub settings_behind : (w : List ℕ) (ws : List (List ℕ)) (n a b : ℕ) → spoken (w ∷ ws) ++ settings_said n a b ≡ spoken ((w ∷ ws) ++ numbers_said n a b)
settings_behind w ws n a b =
    split (eqb n 0)
    (λ e. rw e (append-nil (spoken (w ∷ ws)) ∙ ap spoken (sym (append-nil (w ∷ ws)))))
    (λ e.
    split (eqb n 1)
    (λ f. rw (e, f) (sym (further w ws (decimal a))))
    (λ f.
    rw (e, f) (
    sym (append_assoc (spoken (w ∷ ws)) (space ∷ decimal a) (space ∷ decimal b))
    ∙ ap (λ (t : List ℕ). t ++ (space ∷ decimal b)) (sym (further w ws (decimal a)))
    ∙ sym (further w (ws ++ (decimal a ∷ [])) (decimal b))
    ∙ ap (λ (t : List (List ℕ)). spoken (w ∷ t)) (append_assoc ws (decimal a ∷ []) (decimal b ∷ [])))))

-- every command has a name
some_name : (row : ℕ) → row < rows → name_words row ≡ get_or (name_words row) 0 [] ∷ drop 1 (name_words row)
unfolding name_words
some_name row h =
    each (λ (k : ℕ). name_words k ≡ get_or (name_words k) 0 [] ∷ drop 1 (name_words k)) rows
    (((((((((((((((((((tt, refl), refl), refl), refl), refl), refl), refl), refl), refl), refl), refl), refl), refl), refl), refl), refl), refl), refl), refl) row h

relay_row_lem : (a b : Bool) → pick a (pick b 2 0) (pick b 1 3) < rows
relay_row_lem true true = omega arith
relay_row_lem true false = omega arith
relay_row_lem false true = omega arith
relay_row_lem false false = omega arith

pub in_menu : (c : Command) → (entry_of c).row < rows
in_menu (Relay on off) = relay_row_lem (eqb on 1) (eqb off 1)
in_menu (Iel clock enable) = omega arith
in_menu (HeadMask mask) = omega arith
in_menu (Target x target) = omega (arith, rows-in-menu x)
in_menu (Limit x limit) = omega (arith, rows-in-menu x)
in_menu (Mode low) = omega arith
in_menu (Stepping x low) = rows-in-menu x
in_menu (Multiplexers byte bit) = omega arith
in_menu (DirectionWindow start stop) = omega arith
in_menu (EnergyWindow start stop) = omega arith

pub plain_is : (c : Command) → let e = entry_of c in spoken (name_words e.row) ++ settings_said (wanted e.row) e.first e.second ≡ plain_of c
unfolding plain_of
plain_is c =
    let e = entry_of c in
    let n = some_name e.row (in_menu c) in
    subst (λ (ws : List (List ℕ)). spoken ws ++ settings_said (wanted e.row) e.first e.second ≡ spoken (ws ++ numbers_said (wanted e.row) e.first e.second))
    (sym n) (settings_behind (get_or (name_words e.row) 0 []) (drop 1 (name_words e.row)) (wanted e.row) e.first e.second)
