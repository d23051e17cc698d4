-- The rows of the menu: the search step by step, and each row is found by its own words.
-- Assumes nothing.
use mathlib.Core.Path.{◌≡◌, refl, sym, ap, ◌∙◌, subst}
use Rattle.std.specs.Prelude.{Option, Some, None, MatchOption}
use mathlib.Core.Bool.{Bool, true, false}
use mathlib.Core.List.{List, [], ◌∷◌, ◌++◌}
use Prim.Native.Nat.{ℕ, zero, suc, ◌+◌, ◌-◌, ◌≤◌, ◌<◌}
use native.Mathlib.Nat.{not-suc-le-zero}
use native.Mathlib.Decide.{ℕ_discrete}
use native.Mathlib.Omega.{arith}
use lib.Dec.{T, eqb, ltb}
use lib.ListN.{length, get_or, replicate, length-append, length-take}
use lib.Seq.{get_or-append-add}
use borrow.Author.Tests.{ltb-true, ltb-false, lt-ltb, ne_eqb}
use Rattle.base.proofs.Cases.{split}
use Rattle.names.specs.Names.{name_in}
use Rattle.names.proofs.Texts.{text, named}
use Rattle.splitting.specs.Words.{space, words_of, spoken}
use Rattle.splitting.proofs.Spoken.{padded_back, can_spell, spellable}
use Rattle.menu_names.specs.Names.{rows, names, name_words, name_of, called, seek, find_of, row_found, Found}

-- the search from a row on: no row is named, or i is the first
module _ (first second : List ℕ) where
  abbrev named_at : ℕ → Bool
  named_at row = called (name_words row) first second

  passed : (left row : ℕ) → row + left ≡ rows → ((k : ℕ) → row ≤ k → k < rows → named_at k ≡ false) → seek left row first second ≡ rows
  unfolding seek
  passed zero row e f = omega arith
  passed (suc left) row e f = rw (f row (omega arith) (omega arith)) (passed left (suc row) (omega arith) (λ k h l. f k (omega arith) l))

  reached : (left row i : ℕ) → row + left ≡ rows → row ≤ i → i < rows → named_at i ≡ true → ((k : ℕ) → row ≤ k → k < i → named_at k ≡ false)
      → seek left row first second ≡ i
  unfolding seek
  reached zero row i e h l t f = absurd (omega arith)
  reached (suc left) row i e h l t f =
      elim (ℕ_discrete row i) [
        | yes q ↦ rw (subst (λ (k : ℕ). named_at k ≡ true) (sym q) t) q
        | no ne ↦ rw (f row (omega arith) (omega arith)) (reached left (suc row) i (omega arith) (omega arith) l t (λ k g m. f k (omega arith) m))
      ]

  pub first_named : (r : Option ℕ)
      → MatchOption r ((k : ℕ) → 0 ≤ k → k < rows → named_at k ≡ false)
      (λ i. (0 ≤ i) × (i < rows) × (named_at i ≡ true) × ((k : ℕ) → 0 ≤ k → k < i → named_at k ≡ false))
      → r ≡ row_found first second
  unfolding find_of
  first_named None h = rw (passed rows 0 refl h)
  first_named (Some i) h = rw (reached rows 0 i refl h.0 h.1 h.2 h.3) (rw (lt-ltb i rows h.1))

-- something of each number below n, told one by one
abbrev pub Each : (ℕ → Type 0) → ℕ → Type 0
Each P zero = Unit
Each P (suc n) = Each P n × P n

pub each : (P : ℕ → Type 0) (n : ℕ) → Each P n → (k : ℕ) → k < n → P k
each P zero t k h = absurd (not-suc-le-zero h)
each P (suc n) t k h = elim (ℕ_discrete k n) [ yes e ↦ subst P (sym e) t.1 | no ne ↦ each P n t.0 k (omega arith) ]

-- the words of a name as it stands in its row
padded : (k n : ℕ) → T (can_spell (name_words k)) → words_of (spoken (name_words k) ++ replicate n space) ≡ name_words k
padded k n t = padded_back (name_words k) n (spellable (name_words k) t)

pub words_in : (row : ℕ) → row < rows → words_of (name_of row) ≡ name_words row
unfolding name_of name_words
words_in row h =
    each (λ (k : ℕ). words_of (name_of k) ≡ name_words k) rows
    (((((((((((((((((((tt, padded 0 12 tt), padded 1 11 tt), padded 2 10 tt), padded 3 7 tt), padded 4 11 tt), padded 5 9 tt), padded 6 10 tt), padded 7 7 tt), padded 8 8 tt), padded 9 9 tt), padded 10 6 tt), padded 11 3 tt), padded 12 4 tt), padded 13 1 tt), padded 14 16 tt), padded 15 17 tt), padded 16 8 tt), padded 17 4 tt), padded 18 7 tt) row h

-- a name takes twenty bytes
room : (row : ℕ) → length (name_of row) ≡ 20
unfolding name_of
room row = let n = length-append (spoken (name_words row)) (replicate 20 space) in simp length-take (omega (arith, n))

-- past the last row there is no name
past : (row : ℕ) → rows ≤ row → name_of row ≡ replicate 20 space
unfolding name_of name_words
past row h = let n : row ≡ rows + (row - rows) = omega arith in rw n (rw (get_or-append-add names [] (row - rows) []))

pub no_name : (row : ℕ) → rows ≤ row → name_words row ≡ []
unfolding name_words
no_name row h = let n : row ≡ rows + (row - rows) = omega arith in rw n (get_or-append-add names [] (row - rows) [])

-- the words of a row's twenty bytes, past the last row too
pub words_at : (row : ℕ) → words_of (name_of row) ≡ name_words row
words_at row =
    split (ltb row rows) (λ e. words_in row (ltb-true row rows e))
    (λ e.
    let h = ltb-false row rows e in
    ap words_of (past row h) ∙ padded_back [] 20 tt ∙ sym (no_name row h))

pub at_most_two : (row : ℕ) → length (name_words row) ≤ 2
unfolding name_words
at_most_two row =
    split (ltb row rows)
    (λ e.
    each (λ (k : ℕ). length (name_words k) ≤ 2) rows
    (((((((((((((((((((tt, omega arith), omega arith), omega arith), omega arith), omega arith), omega arith), omega arith), omega arith), omega arith), omega arith), omega arith), omega arith), omega arith), omega arith), omega arith), omega arith), omega arith), omega arith), omega arith)
    row (ltb-true row rows e))
    (λ e. rw (no_name row (ltb-false row rows e)) (omega arith))

abbrev pub numbers : List ℕ
numbers = 0 ∷ 1 ∷ 2 ∷ 3 ∷ 4 ∷ 5 ∷ 6 ∷ 7 ∷ 8 ∷ 9 ∷ 10 ∷ 11 ∷ 12 ∷ 13 ∷ 14 ∷ 15 ∷ 16 ∷ 17 ∷ 18 ∷ []

-- the names one after the other, and the name in each row of them
pub in_row : (row : ℕ) → name_in (text name_of numbers) row ≡ name_of row
unfolding name_in name_of name_words
in_row row =
    split (ltb row rows)
    (λ e.
    let h = ltb-true row rows e in
    named name_of room numbers 0 row row row refl h (each (λ (k : ℕ). get_or numbers k 0 ≡ k) rows (((((((((((((((((((tt, refl), refl), refl), refl), refl), refl), refl), refl), refl), refl), refl), refl), refl), refl), refl), refl), refl), refl), refl) row h))
    (λ e. rw e (sym (past row (ltb-false row rows e))))

pub found : Found
unfolding find_of seek name_words
found row h next =
    each (λ (k : ℕ). find_of (get_or (name_words k) 0 []) (get_or (name_words k ++ (next ∷ [])) 1 []) ≡ k) rows
    (((((((((((((((((((tt, refl), refl), refl), refl), refl), refl), refl), refl), refl), refl), refl), refl), refl), refl), refl), refl), refl), refl), refl) row h

-- No name begins with a digit or a capital letter: so a word in hex, as it is written, names no row.
other : (b x : ℕ) → b < 0x64 → 0x64 ≤ x → eqb b x ≡ false
other b x h k = ne_eqb b x (λ e. omega arith)

not_called : (row : ℕ) → row < rows → (b : ℕ) (t second : List ℕ) → b < 0x64 → called (name_words row) (b ∷ t) second ≡ false
unfolding name_words
not_called row h b t second l =
    let n : (x : ℕ) → 0x64 ≤ x → eqb b x ≡ false = λ x k. other b x l k in
    each (λ (k : ℕ). called (name_words k) (b ∷ t) second ≡ false) rows
    (((((((((((((((((((tt, rw (n 0x72 (omega arith))), rw (n 0x72 (omega arith))), rw (n 0x72 (omega arith))), rw (n 0x72 (omega arith))), rw (n 0x68 (omega arith))), rw (n 0x73 (omega arith))), rw (n 0x73 (omega arith))), rw (n 0x73 (omega arith))), rw (n 0x73 (omega arith))), rw (n 0x73 (omega arith))), rw (n 0x73 (omega arith))), rw (n 0x64 (omega arith))), rw (n 0x64 (omega arith))), rw (n 0x64 (omega arith))), rw (n 0x6D (omega arith))), rw (n 0x69 (omega arith))), rw (n 0x6D (omega arith))), rw (n 0x64 (omega arith))), rw (n 0x65 (omega arith)))
    row h

pub none_found : (b : ℕ) (t second : List ℕ) → b < 0x64 → find_of (b ∷ t) second ≡ rows
unfolding find_of
none_found b t second l = passed (b ∷ t) second rows 0 refl (λ k h m. not_called k m b t second l)
