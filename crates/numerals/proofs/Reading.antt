-- Reading: a digit on, no digit, the end; a number that is too large stays so; and how large a number of few hex digits gets.
-- Assumes nothing.
use Rattle.std.specs.Prelude.{Ok, Err}
use mathlib.Core.Path.{◌≡◌, refl, sym, ap}
use mathlib.Core.List.{List, [], ◌∷◌}
use Prim.Native.Nat.{ℕ, ◌+◌, ◌*◌, ◌^◌, ◌≤◌, ◌<◌, min}
use native.Mathlib.Nat.{le-mul_of_pos_right, mul-le-mul_right, mul_assoc, pow-zero, pow-succ', not-suc-le-zero}
use native.Mathlib.Numerals.{add-one}
use native.Mathlib.Decide.{dec_lt}
use native.Mathlib.Omega.{arith}
use borrow.Author.Tests.{lt-ltb, le-ltb, ltb-true}
use lib.ListN.{length, drop, get_or}
use lib.Dec.{ltb}
use lib.Seq.{drop-cons}
use Rattle.base.proofs.Cases.{split}
use Rattle.numerals.specs.Letters.{digit_of}
use Rattle.numerals.specs.Decimal.{reading, number_in, bound}
use Rattle.numerals.specs.Shapes.{Number}
use Rattle.numerals.specs.declared.BadNumber.TheVariants.{NotANumber, TooLarge}

module _ (base : ℕ) (h : 1 ≤ base) where
  large : (text : List ℕ) (v : ℕ) → bound ≤ v → reading base v text ≡ reading base bound text
  large [] v k = rw (le-ltb v bound k)
  large (b ∷ text) v k =
      let m : bound ≤ v * base + digit_of b = omega (arith, le-mul_of_pos_right {m = base} v h) in
      let n : bound ≤ bound * base + digit_of b = omega (arith, le-mul_of_pos_right {m = base} bound h) in
      rw (large text (v * base + digit_of b) m, large text (bound * base + digit_of b) n)

  pub capped : (text : List ℕ) (v : ℕ) → reading base (min v bound) text ≡ reading base v text
  capped text v = go (dec_lt v bound)
    where
      go : Dec (v < bound) → reading base (min v bound) text ≡ reading base v text
      go (yes k) = let e : min v bound ≡ v = omega arith in rw e
      go (no k) = let e : min v bound ≡ bound = omega arith in rw e (sym (large text v (omega arith)))

-- a text that is not empty is read from 0 on
pub some : (base : ℕ) (text : List ℕ) → 0 < length text → number_in base text ≡ reading base 0 text
some base [] h = absurd (not-suc-le-zero h)
some base (b ∷ text) h = refl

-- a digit of the text at i, and no digit
module _ (base : ℕ) (text : List ℕ) (i v : ℕ) (h : i < length text) where
  pub one : digit_of (get_or text i 0) < base → reading base v (drop i text) ≡ reading base (v * base + digit_of (get_or text i 0)) (drop (i + 1) text)
  one k = rw (add-one, drop-cons text i 0 h) (rw (lt-ltb (digit_of (get_or text i 0)) base k))

  pub none : base ≤ digit_of (get_or text i 0) → reading base v (drop i text) ≡ (Err NotANumber)
  none k = rw (drop-cons text i 0 h) (rw (le-ltb (digit_of (get_or text i 0)) base k))

-- what a text spells is one of three
abbrev is_number : Number → ℕ
is_number (Ok n) = 1
is_number (Err NotANumber) = 0
is_number (Err TooLarge) = 0

no_number : (m : Number) (n : ℕ) → is_number m ≡ 0 → m ≡ Ok n → ⊥
no_number m n z e = let k = ap is_number e in omega arith

-- a number of so many hex digits is below that power of sixteen
bounded : (text : List ℕ) (v n : ℕ) → reading 16 v text ≡ Ok n → n < (v + 1) * 16 ^ length text
bounded [] v n h =
    split (ltb v bound)
    (λ e. let k : Ok v ≡ Ok n = simp e at h in let m : v ≡ n = cc in rw pow-zero (omega arith))
    (λ e. absurd (no_number (Err TooLarge) n refl (simp e at h)))
bounded (b ∷ text) v n h =
    split (ltb (digit_of b) 16)
    (λ e.
    let d = ltb-true (digit_of b) 16 e in
    let k = bounded text (v * 16 + digit_of b) n (simp e at h) in
    let m : v * 16 + digit_of b + 1 ≤ (v + 1) * 16 = omega arith in
    let p = mul-le-mul_right (16 ^ length text) m in
    rw pow-succ' (rw (← mul_assoc (v + 1) 16 (16 ^ length text)) (omega arith)))
    (λ e. absurd (no_number (Err NotANumber) n refl (simp e at h)))

pub few_digits : (text : List ℕ) (n k : ℕ) → length text ≡ k → number_in 16 text ≡ Ok n → n < 16 ^ k
few_digits [] n k e h = absurd (no_number (Err NotANumber) n refl h)
few_digits (b ∷ text) n k e h = rw (← e) (let f = bounded (b ∷ text) 0 n h in omega arith)
