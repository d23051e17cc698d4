-- The lines of a byte, put one after the other: what is still to come, put where the loop of `byte_lines` stands, makes them all.
-- Assumes nothing.
use mathlib.Core.Path.{◌≡◌, refl, sym, ap, ◌∙◌}
use mathlib.Core.List.{List, ◌++◌, append-nil}
use Prim.Native.Nat.{ℕ, zero, suc, ◌+◌, ◌*◌, ◌-◌, ◌<◌, ◌≤◌}
use native.Mathlib.Nat.{zero-add, le_of_eq}
use native.Mathlib.Omega.{arith}
use lib.Bits.{bit_xor}
use lib.Dec.{ltb}
use lib.ListN.{length, length-append, drop_of_length-le}
use Rattle.base.proofs.Cases.{split}
use Rattle.crc.specs.Crc.{shift}
use Rattle.text.specs.declared.Page.{Page}
use Rattle.text.specs.Page.{put, Puts, Gets, RoomFor}
use Rattle.text.proofs.Puts.{chain, put_nil}
use Rattle.shift_lines.specs.Lines.{start_line, step_text, step_line, step_lines, byte_lines}

pub step_length : (k x : ℕ) → length (step_line k x) ≡ 33
unfolding step_text
step_length k x = split (ltb x 0x80) (λ e. simp e refl) (λ e. simp e refl)

pub steps_length : (n k x : ℕ) → length (step_lines n k x) ≡ 33 * n
unfolding step_lines
steps_length zero k x = refl
steps_length (suc n) k x = length-append (step_line k x) (step_lines n (k + 1) (shift x)) ∙ omega (arith, step_length k x, steps_length n (k + 1) (shift x))

-- a text put behind another is the two put as one
behind : {s : List ℕ} {p q : Page} → Gets s p q → (t : List ℕ) → RoomFor (length s) p → put q.at t q.bytes.now ≡ put p.at (s ++ t) p.bytes.now
behind h t room = (chain h.puts (record { place = refl; content = refl }) room).content

-- the next of the steps that are left
more : (k x : ℕ) → k ≤ 8 → step_lines (9 - k) k x ≡ step_line k x ++ step_lines (9 - (k + 1)) (k + 1) (shift x)
unfolding step_lines
more k x h =
    let e : 9 - k ≡ suc (9 - (k + 1)) = omega arith in
    rw e refl

-- when one more is put
pub again : (k x : ℕ) {p q : Page} → k ≤ 8 → RoomFor 33 p → Gets (step_line k x) p q
    → put q.at (step_lines (9 - (k + 1)) (k + 1) (shift x)) q.bytes.now ≡ put p.at (step_lines (9 - k) k x) p.bytes.now
again k x {p = p} h room m =
    behind m (step_lines (9 - (k + 1)) (k + 1) (shift x)) (omega (arith, step_length k x)) ∙ ap (λ (t : List ℕ). put p.at t p.bytes.now) (sym (more k x h))

-- a text as long as the page
pub whole : (t : List ℕ) {p q : Page} → p.at ≡ 0 → length p.bytes.now ≡ length t → Gets t p q → q.bytes.now ≡ t
whole t {p = p} z n h =
    h.puts.content ∙ rw (z, zero-add (length t)) (rw (drop_of_length-le p.bytes.now {i = length t} (le_of_eq n)) (append-nil t))

-- when all are put
pub ended : (k x y : ℕ) {at next : ℕ} {p q : List ℕ} → 8 < k → k ≤ 9 → next + 33 ≡ at + 33 * k
    → put next (step_lines (9 - k) k x) q ≡ put at (step_lines 8 1 y) p → Puts at (step_lines 8 1 y) p next q
unfolding step_lines
ended k x y {next = next} {q = q} h m n e =
    let z : 9 - k ≡ 0 = omega arith in
    let l = steps_length 8 1 y in
    record { place = omega arith; content = (put_nil next q).content ∙ rw z at e }

-- the lines of a byte are as long as the page
pub filled : (c b : ℕ) {p q : Page} → p.at ≡ 0 → length p.bytes.now ≡ 297
    → Gets (start_line c b ++ step_lines 8 1 (bit_xor c b)) p q → q.bytes.now ≡ byte_lines c b
unfolding byte_lines
filled c b z n h =
    let l = steps_length 8 1 (bit_xor c b) in
    whole (start_line c b ++ step_lines 8 1 (bit_xor c b)) z (n ∙ sym (length-append (start_line c b) (step_lines 8 1 (bit_xor c b)) ∙ omega (arith, l))) h
