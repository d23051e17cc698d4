-- Nothing is lost in a byte's step: the shift steps can be undone, and an exclusive or cancels.
-- Assumes nothing.
use mathlib.Core.Path.{◌≡◌, refl, sym, ap, ◌∙◌}
use mathlib.Core.Bool.{Bool}
use Prim.Native.Nat.{ℕ, zero, suc, ◌+◌, ◌*◌, ◌/◌, ◌%◌, ◌^◌, ◌<◌}
use native.Mathlib.Nat.{pow-succ'}
use native.Mathlib.Omega.{arith}
use lib.Bits.{bit_xor, differ, xor_step, xor_comm, xor_lt}
use lib.Dec.{T, eqb, ltb, eqb→eq, ltb→lt}
use Rattle.base.specs.Pick.{pick}
use Rattle.base.proofs.Table.{both, both_left, both_right, all_below, below}
use Rattle.crc.specs.Crc.{polynomial, shift, shift8, crc_byte}

-- a shift step undone: the polynomial's lowest bit is 1, so an odd number had it put in
abbrev back : ℕ → ℕ
back y = pick (eqb (y % 2) 0) (y / 2) (bit_xor y polynomial / 2 + 0x80)

abbrev back8 : ℕ → ℕ
back8 y = back (back (back (back (back (back (back (back y)))))))

test : ℕ → Bool
unfolding shift
test x = both (ltb (shift8 x) 0x100) (eqb (back8 (shift8 x)) x)

passes : T (all_below test 0x100)
unfolding test
passes = tt

pub shift8_lt : (x : ℕ) → x < 0x100 → shift8 x < 0x100
unfolding test
shift8_lt x h = ltb→lt (shift8 x) 0x100 (both_left (ltb (shift8 x) 0x100) (eqb (back8 (shift8 x)) x) (below test 0x100 passes x h))

undone : (x : ℕ) → x < 0x100 → back8 (shift8 x) ≡ x
unfolding test
undone x h = eqb→eq (back8 (shift8 x)) x (both_right (ltb (shift8 x) 0x100) (eqb (back8 (shift8 x)) x) (below test 0x100 passes x h))

shift8_one : (x y : ℕ) → x < 0x100 → y < 0x100 → shift8 x ≡ shift8 y → x ≡ y
shift8_one x y hx hy e = sym (undone x hx) ∙ ap back8 e ∙ undone y hy

-- two binary digits
digits : (a b : ℕ) → a < 2 → b < 2 → differ a b ≡ (a + b) % 2
digits zero b ha hb = omega arith
digits (suc zero) zero ha hb = refl
digits (suc zero) (suc zero) ha hb = refl
digits (suc zero) (suc (suc b)) ha hb = omega arith
digits (suc (suc a)) b ha hb = omega arith

halves : (m n p q r : ℕ) → q < 2 → r < 2 → m * 2 + (p + q) % 2 ≡ n * 2 + (p + r) % 2 → (m ≡ n) × (q ≡ r)
halves m n p q r hq hr e = (omega arith, omega arith)

step : (a x : ℕ) → bit_xor a x ≡ bit_xor (a / 2) (x / 2) * 2 + (a % 2 + x % 2) % 2
step a x = xor_step a x ∙ ap (λ (d : ℕ). bit_xor (a / 2) (x / 2) * 2 + d) (digits (a % 2) (x % 2) (omega arith) (omega arith))

pub xor_one : (k a x y : ℕ) → x < 2 ^ k → y < 2 ^ k → bit_xor a x ≡ bit_xor a y → x ≡ y
xor_one zero a x y hx hy e = omega arith
xor_one (suc k) a x y hx hy e =
    let h = halves (bit_xor (a / 2) (x / 2)) (bit_xor (a / 2) (y / 2)) (a % 2) (x % 2) (y % 2) (omega arith) (omega arith) (sym (step a x) ∙ e ∙ step a y) in
    let t : x / 2 ≡ y / 2 = xor_one k (a / 2) (x / 2) (y / 2) (omega (arith, pow-succ' 2 k)) (omega (arith, pow-succ' 2 k)) h.0 in
    omega (arith, h.1)

-- the step for one byte gives a byte, and another byte gives another check, as another check before does
pub byte_lt : (c b : ℕ) → c < 0x100 → b < 0x100 → crc_byte c b < 0x100
byte_lt c b hc hb = shift8_lt (bit_xor c b) (xor_lt 8 c b hc hb)

pub byte_one : (c x y : ℕ) → c < 0x100 → x < 0x100 → y < 0x100 → crc_byte c x ≡ crc_byte c y → x ≡ y
byte_one c x y hc hx hy e =
    xor_one 8 c x y hx hy (shift8_one (bit_xor c x) (bit_xor c y) (xor_lt 8 c x hc hx) (xor_lt 8 c y hc hy) e)

pub byte_one_before : (c d b : ℕ) → c < 0x100 → d < 0x100 → b < 0x100 → crc_byte c b ≡ crc_byte d b → c ≡ d
byte_one_before c d b hc hd hb e =
    byte_one b c d hb hc hd (ap shift8 (xor_comm b c) ∙ e ∙ ap shift8 (xor_comm d b))
