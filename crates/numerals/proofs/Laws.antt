-- The laws of numbers in text (specs/Laws.antt).
-- Assumes nothing.
use Rattle.std.specs.Prelude.{Some, Ok}
use mathlib.Core.Path.{◌≡◌, refl, ◌∙◌}
use mathlib.Core.List.{List, [], ◌∷◌, ◌++◌, map, append_assoc}
use Prim.Native.Nat.{ℕ, zero, suc, ◌+◌, ◌*◌, ◌/◌, ◌%◌, ◌^◌, ◌≤◌, ◌<◌}
use native.Mathlib.Nat.{pow-suc, pow-zero, div-lt_iff_lt-mul}
use native.Mathlib.Omega.{arith}
use borrow.Author.Tests.{lt-ltb, eqb-true, eqb-false}
use lib.Dec.{eqb}
use lib.ListN.{length, length-append}
use Rattle.base.proofs.Cases.{split}
use Rattle.text.specs.Digits.{digit, hex_word}
use Rattle.numerals.specs.Letters.{digit_of, small}
use Rattle.numerals.specs.Decimal.{front, decimal, reading, number_in, number_of, bound}
use Rattle.numerals.specs.Hex.{word_of}
use Rattle.numerals.specs.Laws.{NumeralLaws}
use Rattle.numerals.proofs.Letters.{letter_digit, small_digit}
use Rattle.numerals.proofs.Writing.{front_more, front_none}
use Rattle.numerals.proofs.Reading.{some}

-- a letter that stands for the digit d
spelled : (base b d v : ℕ) (text : List ℕ) → digit_of b ≡ d → d < base → reading base v (b ∷ text) ≡ reading base (v * base + d) text
spelled base b d v text e h = rw e (rw (lt-ltb d base h))

done : (base v : ℕ) → v < bound → reading base v [] ≡ Ok v
done base v h = rw (lt-ltb v bound h)

-- the digits in front of the last, and what follows
front_back : (k n : ℕ) (ys : List ℕ) → n < 10 ^ k → reading 10 0 (front k n ++ ys) ≡ reading 10 n ys
front_back zero n ys h = let e : n ≡ 0 = omega (arith, rw pow-zero at h) in rw e
front_back (suc k) n ys h =
    split (eqb n 0)
    (λ e. let z = eqb-true n 0 e in rw z)
    (λ e.
    let ne = eqb-false n 0 e in
    let q : n / 10 < 10 ^ k = (div-lt_iff_lt-mul {k = 10} {x = n} {y = 10 ^ k} (omega arith)).1 (rw pow-suc at h) in
    let whole : n / 10 * 10 + n % 10 ≡ n = omega arith in
    rw (front_more k n (omega arith))
    (rw append_assoc
    (front_back k (n / 10) (digit (n % 10) ∷ ys) q
    ∙ spelled 10 (digit (n % 10)) (n % 10) (n / 10) ys (letter_digit (n % 10) (omega arith)) (omega arith)
    ∙ rw whole)))

pub some_digit : (n : ℕ) → 0 < length (decimal n)
unfolding decimal
some_digit n = simp length-append (omega arith)

-- A number of 32 bits, written in decimal, is read as itself.
pub decimal_back : (n : ℕ) → n < bound → number_of (decimal n) ≡ Ok n
unfolding decimal
decimal_back n h =
    let whole : n / 10 * 10 + n % 10 ≡ n = omega arith in
    some 10 (decimal n) (some_digit n)
    ∙ front_back 9 (n / 10) (digit (n % 10) ∷ []) (omega arith)
    ∙ spelled 10 (digit (n % 10)) (n % 10) (n / 10) [] (letter_digit (n % 10) (omega arith)) (omega arith)
    ∙ rw whole (done 10 n h)

-- A zero in front changes nothing.
pub zero_front : (b : ℕ) (text : List ℕ) → number_of (0x30 ∷ b ∷ text) ≡ number_of (b ∷ text)
unfolding digit_of
zero_front b text = refl

-- four letters, whatever they look like
module _ (a b : ℕ) where
  four : (c d n : ℕ) → n < 65536 → digit_of a ≡ n / 256 / 16 → digit_of b ≡ n / 256 % 16 → digit_of c ≡ n % 256 / 16 → digit_of d ≡ n % 256 % 16
      → word_of (a ∷ b ∷ c ∷ d ∷ []) ≡ Some n
  four c d n h e f g k =
      let whole : (((0 * 16 + n / 256 / 16) * 16 + n / 256 % 16) * 16 + n % 256 / 16) * 16 + n % 256 % 16 ≡ n = omega arith in
      let e : number_in 16 (a ∷ b ∷ c ∷ d ∷ []) ≡ Ok n =
      (spelled 16 a (n / 256 / 16) 0 (b ∷ c ∷ d ∷ []) e (omega arith)
      ∙ spelled 16 b (n / 256 % 16) (0 * 16 + n / 256 / 16) (c ∷ d ∷ []) f (omega arith)
      ∙ spelled 16 c (n % 256 / 16) ((0 * 16 + n / 256 / 16) * 16 + n / 256 % 16) (d ∷ []) g (omega arith)
      ∙ spelled 16 d (n % 256 % 16) (((0 * 16 + n / 256 / 16) * 16 + n / 256 % 16) * 16 + n % 256 / 16) [] k (omega arith)
      ∙ rw whole (done 16 n (omega arith))) in
      rw e

pub word_back : (w : ℕ) → w < 65536 → word_of (hex_word w) ≡ Some w
word_back w h =
    four _ _ _ _ w h
    (letter_digit (w / 256 / 16) (omega arith)) (letter_digit (w / 256 % 16) (omega arith))
    (letter_digit (w % 256 / 16) (omega arith)) (letter_digit (w % 256 % 16) (omega arith))

pub small_word_back : (w : ℕ) → w < 65536 → word_of (map small (hex_word w)) ≡ Some w
small_word_back w h =
    four _ _ _ _ w h
    (small_digit (w / 256 / 16) (omega arith)) (small_digit (w / 256 % 16) (omega arith))
    (small_digit (w % 256 / 16) (omega arith)) (small_digit (w % 256 % 16) (omega arith))

-- how long it gets
front_le : (k n : ℕ) → length (front k n) ≤ k
front_le zero n = omega arith
front_le (suc k) n =
    let i = front_le k (n / 10) in
    split (eqb n 0) (λ e. simp e (omega arith)) (λ e. simp (e, length-append) (omega arith))

-- with room for more digits than the number has, those that it has are all
front_short : (j k n : ℕ) → n < 10 ^ j → length (front k n) ≤ j
front_short zero k n h = let e : n ≡ 0 = omega (arith, rw pow-zero at h) in rw (e, front_none k) (omega arith)
front_short (suc j) zero n h = omega arith
front_short (suc j) (suc k) n h =
    let q : n / 10 < 10 ^ j = (div-lt_iff_lt-mul {k = 10} {x = n} {y = 10 ^ j} (omega arith)).1 (rw pow-suc at h) in
    let i = front_short j k (n / 10) q in
    split (eqb n 0) (λ e. simp e (omega arith)) (λ e. simp (e, length-append) (omega arith))

pub ten_digits : (n : ℕ) → length (decimal n) ≤ 10
unfolding decimal
ten_digits n = let i = front_le 9 (n / 10) in simp length-append (omega arith)

pub short : (k n : ℕ) → 1 ≤ k → n < 10 ^ k → length (decimal n) ≤ k
unfolding decimal
short zero n p h = absurd (omega arith)
short (suc k) n p h =
    let q : n / 10 < 10 ^ k = (div-lt_iff_lt-mul {k = 10} {x = n} {y = 10 ^ k} (omega arith)).1 (rw pow-suc at h) in
    let i = front_short k 9 (n / 10) q in
    simp length-append (omega arith)

pub laws : NumeralLaws
laws =
    record {
      decimal_back = decimal_back;
      zero_front = zero_front;
      word_back = word_back;
      small_word_back = small_word_back;
      some_digit = some_digit;
      ten_digits = ten_digits;
      short = short;
    }
