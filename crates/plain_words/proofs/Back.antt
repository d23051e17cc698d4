-- There and back: a command that is told in plain words and typed again is the same command (specs/Plain `ThereAndBack`).
-- Assumes nothing.
use Rattle.std.specs.Prelude.{Ok}
use mathlib.Core.Path.{◌≡◌, refl, ap, ◌∙◌}
use mathlib.Core.List.{List, [], ◌∷◌, ◌++◌}
use Prim.Native.Nat.{ℕ, zero, suc, ◌+◌, ◌/◌, ◌%◌, ◌<◌}
use native.Mathlib.Omega.{arith}
use borrow.Author.Tests.{lt-ltb}
use lib.Dec.{T, eqb, ltb}
use lib.ListN.{length, get_or}
use lib.Seq.{drop_at}
use Rattle.base.proofs.Cases.{split}
use Rattle.text.specs.Digits.{digit}
use Rattle.numerals.specs.Decimal.{front, decimal, number_of}
use Rattle.numerals.proofs.Laws.{decimal_back, some_digit}
use Rattle.splitting.specs.Words.{space, words_of, spoken, NoSpace, Spellable}
use Rattle.splitting.proofs.Spoken.{spoken_back, can_spell, spellable}
use Rattle.wording.specs.declared.Command.TheVariants.{Relay, Iel, HeadMask, Target, Limit, Mode, Stepping, Multiplexers, DirectionWindow, EnergyWindow}
use Rattle.wording.proofs.Sent.{two_bits, fits_one, fits_two}
use Rattle.menu_names.specs.Names.{rows, name_words, find_of}
use Rattle.menu_names.proofs.Rows.{each, found}
use Rattle.menu_rows.specs.Rows.{wanted, made, first_row}
use Rattle.menu_rows.proofs.Laws.{in_menu, takes_one, supply_back}
use Rattle.asking.specs.declared.Asked.TheVariants.{Order}
use Rattle.asking.specs.Asks.{setting_of, order_of, ask_of}
use Rattle.plain_words.specs.Plain.{numbers_said, plain_of, ThereAndBack}

-- a number has no space in it
no_space_end : (w : List ℕ) (b : ℕ) → NoSpace w → (b ≡ space → ⊥) → NoSpace (w ++ (b ∷ []))
no_space_end [] b h k = (k, tt)
no_space_end (x ∷ w) b h k = (h.0, no_space_end w b h.1 k)

digit_letter : (d : ℕ) → digit d ≡ space → ⊥
unfolding digit
digit_letter d = split (ltb d 10) (λ e. rw e (λ q. omega arith)) (λ e. rw e (λ q. omega arith))

front_no_space : (k n : ℕ) → NoSpace (front k n)
front_no_space zero n = tt
front_no_space (suc k) n =
    split (eqb n 0) (λ e. rw e tt) (λ e. rw e (no_space_end (front k (n / 10)) (digit (n % 10)) (front_no_space k (n / 10)) (digit_letter (n % 10))))

no_space_lem : (n : ℕ) → NoSpace (decimal n)
unfolding decimal
no_space_lem n = no_space_end (front 9 (n / 10)) (digit (n % 10)) (front_no_space 9 (n / 10)) (digit_letter (n % 10))

-- a number that is told is read as the setting
setting_back : (n : ℕ) → n < 256 → setting_of (number_of (decimal n)) ≡ Ok n
setting_back n h = rw (decimal_back n (omega arith)) (rw (lt-ltb n 256 h))

-- words behind those of a name that can be spelled
behind : (ws vs : List (List ℕ)) → Spellable ws → Spellable vs → Spellable (ws ++ vs)
behind [] vs h k = k
behind (w ∷ ws) vs h k = (h.0, h.1, behind ws vs h.2 k)

name_spells : (row : ℕ) → row < rows → Spellable (name_words row)
unfolding name_words
name_spells row h =
    each (λ (k : ℕ). Spellable (name_words k)) rows
    (((((((((((((((((((tt, ok 0 tt), ok 1 tt), ok 2 tt), ok 3 tt), ok 4 tt), ok 5 tt), ok 6 tt), ok 7 tt), ok 8 tt), ok 9 tt), ok 10 tt), ok 11 tt), ok 12 tt), ok 13 tt), ok 14 tt), ok 15 tt), ok 16 tt), ok 17 tt), ok 18 tt) row h
  where
    ok : (k : ℕ) → T (can_spell (name_words k)) → Spellable (name_words k)
    ok k t = spellable (name_words k) t

-- the words of a row's name, with settings behind
second : (ws vs : List (List ℕ)) → 0 < length ws → get_or (ws ++ (get_or vs 0 [] ∷ [])) 1 [] ≡ get_or (ws ++ vs) 1 []
second [] vs h = absurd (omega arith)
second (w ∷ []) vs h = refl
second (w ∷ x ∷ ws) vs h = refl

first : (ws vs : List (List ℕ)) → 0 < length ws → get_or ws 0 [] ≡ get_or (ws ++ vs) 0 []
first [] vs h = absurd (omega arith)
first (w ∷ ws) vs h = refl

some_word : (row : ℕ) → row < rows → 0 < length (name_words row)
unfolding name_words
some_word row h =
    each (λ (k : ℕ). 0 < length (name_words k)) rows
    (((((((((((((((((((tt, omega arith), omega arith), omega arith), omega arith), omega arith), omega arith), omega arith), omega arith), omega arith), omega arith), omega arith), omega arith), omega arith), omega arith), omega arith), omega arith), omega arith), omega arith), omega arith)
    row h

module _ (row : ℕ) (h : row < rows) (vs : List (List ℕ)) where
  found_row : find_of (get_or (name_words row ++ vs) 0 []) (get_or (name_words row ++ vs) 1 []) ≡ row
  found_row =
      let n = some_word row h in
      rw (← first (name_words row) vs n, ← second (name_words row) vs n) (found row h (get_or vs 0 []))

  asked : ask_of (name_words row ++ vs) ≡ order_of row vs
  unfolding ask_of
  asked =
      let ws = name_words row in
      rw (found_row, lt-ltb row rows h) (ap (order_of row) (drop_at ws vs (length ws) refl))

  typed : Spellable vs → ask_of (words_of (spoken (name_words row ++ vs))) ≡ order_of row vs
  typed s = ap ask_of (spoken_back (name_words row ++ vs) (behind (name_words row) vs (name_spells row h) s)) ∙ asked

-- with no setting, one, and two
none_typed : (row : ℕ) → row < rows → wanted row ≡ 0 → ask_of (words_of (spoken (name_words row ++ []))) ≡ Order (made row 0 0)
unfolding order_of
none_typed row h e = typed row h [] tt ∙ rw e

one_typed : (row a : ℕ) → row < rows → wanted row ≡ 1 → a < 256
    → ask_of (words_of (spoken (name_words row ++ numbers_said (wanted row) a 0))) ≡ Order (made row a 0)
unfolding order_of
one_typed row a h e l = rw e (typed row h (decimal a ∷ []) (some_digit a, no_space_lem a, tt) ∙ rw e (rw (setting_back a l)))

two_typed : (row a b : ℕ) → row < rows → wanted row ≡ 2 → a < 256 → b < 256
    → ask_of (words_of (spoken (name_words row ++ (decimal a ∷ decimal b ∷ [])))) ≡ Order (made row a b)
unfolding order_of
two_typed row a b h e l m =
    typed row h (decimal a ∷ decimal b ∷ []) (some_digit a, no_space_lem a, (some_digit b, no_space_lem b, tt)) ∙ rw e (rw (setting_back a l, setting_back b m))

pub there_and_back : ThereAndBack
unfolding plain_of made
there_and_back (Relay on off) f =
    let h = fits_two on 2 off 2 f in
    two_bits (λ x y. ask_of (words_of (plain_of (Relay x y))) ≡ Order (Relay x y))
    (none_typed 3 (omega arith) refl) (none_typed 1 (omega arith) refl) (none_typed 0 (omega arith) refl) (none_typed 2 (omega arith) refl) on off h.0 h.1
there_and_back (HeadMask mask) f = let h = fits_one mask 8 f in one_typed 4 mask (omega arith) refl (omega arith)
there_and_back (Target x target) f =
    let h = fits_one target 16 f in
    one_typed (first_row x) target (omega (arith, in_menu x)) (takes_one x).0 (omega arith) ∙ ap Order (supply_back x target).0
there_and_back (Limit x limit) f =
    let h = fits_one limit 16 f in
    one_typed (first_row x + 1) limit (omega (arith, in_menu x)) (takes_one x).1 (omega arith) ∙ ap Order (supply_back x limit).1
there_and_back (Mode low) f = one_typed 14 low (omega arith) refl (fits_one low 256 f)
there_and_back (Stepping x low) f =
    one_typed (first_row x + 2) low (in_menu x) (takes_one x).2 (fits_one low 256 f) ∙ ap Order (supply_back x low).2
there_and_back (Iel clock enable) f = let h = fits_two clock 2 enable 2 f in two_typed 15 clock enable (omega arith) refl (omega arith) (omega arith)
there_and_back (Multiplexers byte bit) f = let h = fits_two byte 256 bit 2 f in two_typed 16 byte bit (omega arith) refl h.0 (omega arith)
there_and_back (DirectionWindow start stop) f = let h = fits_two start 32 stop 32 f in two_typed 17 start stop (omega arith) refl (omega arith) (omega arith)
there_and_back (EnergyWindow start stop) f = let h = fits_two start 32 stop 32 f in two_typed 18 start stop (omega arith) refl (omega arith) (omega arith)
