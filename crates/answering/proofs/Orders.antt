-- What was written into four words of room; and lines of words, one more at the end.
-- Assumes nothing.
use Rattle.std.specs.Prelude.{Ok, Err}
use mathlib.Core.Path.{◌≡◌, refl, sym, ap, ◌∙◌, subst}
use mathlib.Core.List.{List, [], ◌∷◌, ◌++◌, append_assoc, append-nil}
use Prim.Native.Nat.{ℕ, zero, suc, ◌+◌, ◌*◌, ◌≤◌, ◌<◌}
use native.Mathlib.Nat.{not-suc-le-zero, le_of_suc-le-suc}
use native.Mathlib.Omega.{arith}
use borrow.Author.Tests.{le-leb}
use lib.Dec.{leb}
use lib.ListN.{length, get_or, take, drop, length-append}
use lib.Seq.{take_at}
use Rattle.base.proofs.Cases.{split}
use Rattle.text.specs.Page.{fitting}
use Rattle.wording.specs.declared.Command.{Command}
use Rattle.wording.specs.declared.Command.TheVariants.{Relay, Iel, HeadMask, Target, Limit, Mode, Stepping, Multiplexers, DirectionWindow, EnergyWindow}
use Rattle.wording.specs.declared.Refusal.{Refusal}
use Rattle.wording.specs.Shapes.{Wrote}
use Rattle.wording.specs.Written.{fits, words_of, wrote_of, written_of}
use Rattle.answering.specs.Answers.{hex_line, hex_lines, refused_line, order_lines}

-- four words are room enough
at_most_four : (c : Command) → length (words_of c) ≤ 4
at_most_four (Relay on off) = omega arith
at_most_four (Iel clock enable) = omega arith
at_most_four (HeadMask mask) = omega arith
at_most_four (Target x target) = omega arith
at_most_four (Limit x limit) = omega arith
at_most_four (Mode low) = omega arith
at_most_four (Stepping x low) = omega arith
at_most_four (Multiplexers byte bit) = omega arith
at_most_four (DirectionWindow start stop) = omega arith
at_most_four (EnergyWindow start stop) = omega arith

-- what was written tells of the command: its words, or that a setting is too wide
abbrev Told : Command → List ℕ → Wrote → Type 0
Told c out (Ok n) = (n ≤ 4) × (hex_lines (take n (written_of c out)) ≡ order_lines c)
Told c out (Err why) = refused_line why ≡ order_lines c

told : (c : Command) (out : List ℕ) → length out ≡ 4 → Told c out (wrote_of c (length out))
unfolding wrote_of written_of order_lines
told c out n =
    split (fits c)
    (λ f.
    let four = at_most_four c in
    let e = le-leb (length (words_of c)) (length out) (omega arith) in
    rw (f, e) (four, rw (f, e) (ap hex_lines (take_at (words_of c) (drop (length (words_of c)) out) (length (words_of c)) refl))))
    (λ f. rw f (rw f))

module _ (c : Command) (out : List ℕ) (room : length out ≡ 4) where
  pub words_told : (n : ℕ) → wrote_of c (length out) ≡ Ok n → (n ≤ 4) × (hex_lines (take n (written_of c out)) ≡ order_lines c)
  words_told n e = subst (Told c out) e (told c out room)

  pub refusal_told : (why : Refusal) → wrote_of c (length out) ≡ Err why → refused_line why ≡ order_lines c
  refusal_told why e = subst (Told c out) e (told c out room)

-- lines of words, with one more
pub one_more_lem : (ws : List ℕ) (i : ℕ) → i < length ws → hex_lines (take i ws) ++ hex_line (get_or ws i 0) ≡ hex_lines (take (i + 1) ws)
one_more_lem [] i h = absurd (not-suc-le-zero h)
one_more_lem (w ∷ ws) zero h = sym (append-nil (hex_line w))
one_more_lem (w ∷ ws) (suc i) h =
    append_assoc (hex_line w) (hex_lines (take i ws)) (hex_line (get_or ws i 0)) ∙ ap (λ (t : List ℕ). hex_line w ++ t) (one_more_lem ws i (le_of_suc-le-suc h)) ∙ on
  where
    on : hex_line w ++ hex_lines (take (i + 1) ws) ≡ hex_lines (take (suc i + 1) (w ∷ ws))
    on = let n : suc i + 1 ≡ suc (i + 1) = omega arith in rw n

pub lines_length : (ws : List ℕ) → length (hex_lines ws) ≡ 5 * length ws
lines_length [] = refl
lines_length (w ∷ ws) = let n = length-append (hex_line w) (hex_lines ws) in let h = lines_length ws in omega (arith, n, h)

-- of no text nothing is put, whatever the room
pub nothing : (most at : ℕ) (page : List ℕ) → fitting most at page [] ≡ []
unfolding fitting
nothing most at page = split (leb (at + most) (length page)) (λ e. rw e) (λ e. rw e)
