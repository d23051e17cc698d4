-- One float makes a count of 256ths: of two significands of 53 digits with the same size, neither has the smaller weight.
-- Assumes nothing.
use mathlib.Core.Path.{◌≡◌, refl, sym, ap, ◌∙◌}
use Prim.Native.Nat.{ℕ, zero, suc, ◌+◌, ◌*◌, ◌^◌, ◌≤◌, ◌<◌, max}
use native.Mathlib.Nat.{mul-le-mul_right, eq_of_mul-eq-mul_right, pow-succ', suc-mul}
use native.Mathlib.Omega.{arith}
use lib.IntN.{ℤ}
use lib.Pow.{pow_mono, pow_pos}
use lib.Ieee.{Float, binary64, to_bits, of_bits}
use lib.Ieee.Bits.{of_bits-to_bits, to_bits-lt}
use Rattle.volts.specs.Volts.{lead, exponent, rest, sign_bit, Bits256, Makes}

eq_by : (a b : ℕ) → (a < b → ⊥) → (b < a → ⊥) → a ≡ b
eq_by a b f g = omega arith

-- a significand of 53 digits at a smaller weight is less than a full one at a larger
smaller : (p q a b : ℕ) → p < 2 ^ 53 → 2 ^ 52 ≤ q → a < b → p * 2 ^ a < q * 2 ^ b
smaller p q a b hp hq h =
    let hy : 2 * 2 ^ a ≤ 2 ^ b = rw (← pow-succ') (pow_mono h) in
    let hx : suc p * 2 ^ a ≤ 2 ^ 53 * 2 ^ a = mul-le-mul_right (2 ^ a) hp in
    omega (arith, rw (suc-mul p (2 ^ a)) at hx, mul-le-mul_right (2 ^ b) hq, pow_pos a)

-- a weight above 1 has a leading digit
full : (e t : ℕ) → 1 < max 1 e → 2 ^ 52 ≤ lead e + t
full zero t h = omega arith
full (suc e) t h = omega arith

less : (e t : ℕ) → t < 2 ^ 52 → lead e + t < 2 ^ 53
less zero t h = omega arith
less (suc e) t h = omega arith

apart : (e t f u : ℕ) → t < 2 ^ 52 → max 1 e < max 1 f → (lead e + t) * 2 ^ max 1 e ≡ (lead f + u) * 2 ^ max 1 f → ⊥
apart e t f u ht h k = omega (arith, smaller (lead e + t) (lead f + u) (max 1 e) (max 1 f) (less e t ht) (full f u (omega arith)) h)

ends : (e t f u : ℕ) → t < 2 ^ 52 → u < 2 ^ 52 → max 1 e ≡ max 1 f → lead e + t ≡ lead f + u → (e ≡ f) × (t ≡ u)
ends zero t zero u ht hu h k = (refl, omega arith)
ends zero t (suc f) u ht hu h k = (omega arith, omega arith)
ends (suc e) t zero u ht hu h k = (omega arith, omega arith)
ends (suc e) t (suc f) u ht hu h k = (omega arith, omega arith)

fields : (e t f u : ℕ) → t < 2 ^ 52 → u < 2 ^ 52 → (lead e + t) * 2 ^ max 1 e ≡ (lead f + u) * 2 ^ max 1 f → (e ≡ f) × (t ≡ u)
fields e t f u ht hu k =
    let h : max 1 e ≡ max 1 f =
    eq_by (max 1 e) (max 1 f) (λ l. apart e t f u ht l k) (λ l. apart f u e t hu l (sym k)) in
    ends e t f u ht hu h
    (eq_of_mul-eq-mul_right (2 ^ max 1 f) (pow_pos (max 1 f)) (lead e + t) (lead f + u) (rw h at k))

-- a number is its three fields
whole : (b : ℕ) → b ≡ sign_bit b * 2 ^ 63 + exponent b * 2 ^ 52 + rest b
whole b = omega arith

bits_one : (b c : ℕ) (z : ℤ) → b < 2 ^ 64 → c < 2 ^ 64 → Bits256 b z → Bits256 c z → b ≡ c
bits_one b c z hb hc p q =
    let f = fields (exponent b) (rest b) (exponent c) (rest c) (omega arith) (omega arith) (p.size ∙ sym q.size) in
    let s : sign_bit b ≡ sign_bit c = p.sign ∙ sym q.sign in
    cc (whole b, whole c, f.0, f.1)

pub makes_one : (x y : Float) (z : ℤ) → Makes x z → Makes y z → x ≡ y
makes_one x y z p q =
    sym (of_bits-to_bits binary64 x p.held)
    ∙ ap (of_bits binary64)
    (bits_one (to_bits binary64 x) (to_bits binary64 y) z (to_bits-lt binary64 x p.held) (to_bits-lt binary64 y q.held) p.bits q.bits)
    ∙ of_bits-to_bits binary64 y q.held
