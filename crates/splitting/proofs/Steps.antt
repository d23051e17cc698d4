-- A line gone through byte by byte: what has come of a word is held, and the rest of the line is still to be parted.
-- Assumes nothing.
use mathlib.Core.Path.{◌≡◌, refl, sym, ap, ◌∙◌}
use mathlib.Core.Bool.{true, false}
use mathlib.Core.List.{List, [], ◌∷◌, ◌++◌}
use Prim.Native.Nat.{ℕ, zero, suc, ◌+◌, ◌-◌, ◌<◌, ◌≤◌}
use native.Mathlib.Numerals.{add-one}
use native.Mathlib.Omega.{arith}
use lib.Dec.{eqb}
use lib.ListN.{length, get_or, take, drop, length-drop, drop_of_length-le}
use lib.Seq.{drop-cons}
use Rattle.std.proofs.lemmas.List.{take_more, get_or-drop}
use Rattle.base.specs.Pick.{pick}
use Rattle.base.proofs.Cases.{split}
use Rattle.splitting.specs.Words.{is_space, is_word, stretches}

-- what has come since the last space
abbrev pub held : List ℕ → ℕ → ℕ → List ℕ
held line start at = take (at - start) (drop start line)

-- the words that are still to be found
abbrev pub left : List ℕ → ℕ → ℕ → List (List ℕ)
left line start at = stretches (held line start at) (drop at line)

-- a byte more of a word
grown : (line : List ℕ) (start at : ℕ) → start ≤ at → at < length line → held line start at ++ (get_or line at 0 ∷ []) ≡ held line start (at + 1)
grown line start at h k =
    let e : at + 1 - start ≡ at - start + 1 = omega arith in
    let l : at - start < length (drop start line) = simp length-drop (omega arith) in
    let s : start + (at - start) ≡ at = omega arith in
    let g : get_or (drop start line) (at - start) 0 ≡ get_or line at 0 = get_or-drop start line (at - start) 0 ∙ ap (λ (i : ℕ). get_or line i 0) s in
    sym (rw e (take_more (drop start line) (at - start) 0 l ∙ ap (λ (b : ℕ). take (at - start) (drop start line) ++ (b ∷ [])) g))

behind : (line : List ℕ) (at : ℕ) → at < length line → drop at line ≡ get_or line at 0 ∷ drop (at + 1) line
behind line at k = rw add-one (drop-cons line at 0 k)

pub letter : (line : List ℕ) (start at : ℕ) → start ≤ at → at < length line → is_space (get_or line at 0) ≡ false
    → left line start at ≡ left line start (at + 1)
letter line start at h k e = rw (behind line at k, e) (ap (λ (x : List ℕ). stretches x (drop (at + 1) line)) (grown line start at h k))

-- what is made of one stretch: a word, or nothing where it is empty
abbrev pub found : List ℕ → List (List ℕ) → List (List ℕ)
found stretch words = pick (is_word stretch) (stretch ∷ words) words

none_held : (line : List ℕ) (at : ℕ) → held line at at ≡ []
none_held line at = let e : at - at ≡ 0 = omega arith in rw e

pub blank : (line : List ℕ) (start at : ℕ) → at < length line → is_space (get_or line at 0) ≡ true
    → left line start at ≡ found (held line start at) (left line (at + 1) (at + 1))
blank line start at k e =
    rw (behind line at k, e, none_held line (at + 1))
    (split (eqb (length (held line start at)) 0) (λ z. rw z) (λ z. rw z))

pub end : (line : List ℕ) (start at : ℕ) → length line ≤ at → left line start at ≡ found (held line start at) []
end line start at k =
    rw (drop_of_length-le line k)
    (split (eqb (length (held line start at)) 0) (λ z. rw z) (λ z. rw z))

-- a space behind a word, and one behind another space
pub word_ends : (line : List ℕ) (start at : ℕ) → at < length line → is_space (get_or line at 0) ≡ true → is_word (held line start at) ≡ true
    → left line start at ≡ held line start at ∷ left line (at + 1) (at + 1)
word_ends line start at k e w = blank line start at k e ∙ rw w refl

pub none_ends : (line : List ℕ) (start at : ℕ) → at < length line → is_space (get_or line at 0) ≡ true → is_word (held line start at) ≡ false
    → left line start at ≡ left line (at + 1) (at + 1)
none_ends line start at k e w = blank line start at k e ∙ rw w refl

pub later : (word : List ℕ) (words : List (List ℕ)) (n : ℕ) → (n ≡ 0 → ⊥) → get_or (word ∷ words) n [] ≡ get_or words (n - 1) []
later word words zero h = absurd (h refl)
later word words (suc n) h = let e : suc n - 1 ≡ n = omega arith in rw e refl
