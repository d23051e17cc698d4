-- The digits of a number, from the last to the first.
-- Assumes nothing.
use mathlib.Core.Path.{◌≡◌, refl, sym, ◌∙◌}
use mathlib.Core.List.{List, [], ◌∷◌, ◌++◌, append_assoc}
use Prim.Native.Nat.{ℕ, zero, suc, ◌-◌, ◌/◌, ◌%◌, ◌^◌, ◌≤◌, ◌<◌}
use native.Mathlib.Nat.{pow-suc, div-lt_iff_lt-mul, not-suc-le-zero}
use native.Mathlib.Omega.{arith}
use borrow.Author.Tests.{ne_eqb}
use lib.ListN.{length, drop, set}
use lib.Seq.{drop-cons, drop-set-lt, get_or-set_same, lt-length-set}
use Rattle.text.specs.Digits.{digit}
use Rattle.numerals.specs.Decimal.{front}

-- one digit more
pub front_more : (k n : ℕ) → 0 < n → front (suc k) n ≡ front k (n / 10) ++ (digit (n % 10) ∷ [])
front_more k n h = simp (ne_eqb n 0 (λ e. omega arith))

pub set_front : (l : List ℕ) (k v : ℕ) → k < length l → drop k (set l k v) ≡ v ∷ drop (suc k) l
set_front l k v h =
    let m = lt-length-set l k v h in
    drop-cons (set l k v) k 0 m ∙ rw (get_or-set_same l k v 0 h, drop-set-lt (suc k) l k v (omega arith))

-- a turn of the loop: the digit that goes to the place before j
pub turn : (l : List ℕ) (j n : ℕ) → 0 < j → j ≤ length l → 0 < n
    → front (j - 1) (n / 10) ++ drop (j - 1) (set l (j - 1) (digit (n % 10))) ≡ front j n ++ drop j l
turn l zero n hj hl hn = absurd (not-suc-le-zero hj)
turn l (suc k) n hj hl hn =
    let e : suc k - 1 ≡ k = omega arith in
    rw e
    (rw (set_front l k (digit (n % 10)) hl, front_more k n hn)
    (sym (append_assoc (front k (n / 10)) (digit (n % 10) ∷ []) (drop (suc k) l))))

-- what is left has fewer digits than there are places
pub fewer : (n j : ℕ) → 0 < n → n < 10 ^ j → (0 < j) × (n / 10 < 10 ^ (j - 1))
fewer n zero h k = absurd (omega arith)
fewer n (suc j) h k =
    let e : suc j - 1 ≡ j = omega arith in
    (omega arith, rw e ((div-lt_iff_lt-mul {k = 10} {x = n} {y = 10 ^ j} (omega arith)).1 (rw pow-suc at k)))

-- nothing is left
pub front_none : (k : ℕ) → front k 0 ≡ []
front_none zero = refl
front_none (suc k) = refl
