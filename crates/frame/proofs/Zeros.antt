-- Bits that no row takes are written 0, and the masks are those of the rows: byte by byte, index by index, computed.
-- Assumes nothing.
use mathlib.Core.Path.{◌≡◌, refl, ap, subst, ◌∙◌}
use Prim.Native.Nat.{ℕ, ◌+◌, ◌-◌, ◌*◌, ◌/◌, ◌%◌, ◌^◌, ◌<◌}
use native.Mathlib.Nat.{mod-eq_of_lt}
use native.Mathlib.Omega.{arith}
use lib.Bits.{bit_and, and_mask}
use lib.Dec.{T, eqb, eqb→eq}
use lib.ListN.{get_or}
use Rattle.base.specs.Pick.{pick}
use Rattle.base.proofs.Table.{all_below, below}
use Rattle.frame.specs.declared.Held.{Held}
use Rattle.frame.specs.declared.Item.TheVariants.{LastInvalidCode, Bias, Ground, LastCheck, InvalidCount}
use Rattle.frame.specs.Items.{row_of}
use Rattle.frame.specs.Write.{quarter_of, ground_at, mux_of, frame_of}
use Rattle.frame.specs.Read.{rows, is_plain}
use Rattle.frame.specs.Laws.{quarter_mask, mask37, mask38, mask39, masks, taken, Fits}
use Rattle.frame.proofs.Each.{each, ◌&◌, end}

-- x has no bit but those of the mask m
abbrev Under : ℕ → ℕ → Type 0
Under m x = bit_and x m ≡ x

-- a number below 2^j
low : (j x : ℕ) → x < 2 ^ j → bit_and x (2 ^ j - 1) ≡ x
low j x h = and_mask x j ∙ mod-eq_of_lt h

-- one of n values f v, each computed
one_of : (m n : ℕ) (f : ℕ → ℕ) → T (all_below (λ v. eqb (bit_and (f v) m) (f v)) n) → (v x : ℕ) → v < n → x ≡ f v → Under m x
one_of m n f t v x h e = rw e (eqb→eq (bit_and (f v) m) (f v) (below (λ v. eqb (bit_and (f v) m) (f v)) n t v h))

-- a field of bits in its place
field : (m n d : ℕ) → T (all_below (λ v. eqb (bit_and (v * d) m) (v * d)) n) → (v : ℕ) → v < n → Under m (v * d)
field m n d t v h = one_of m n (λ v. v * d) t v (v * d) h refl

module _ (h : Held) (i l : ℕ) (fits : Fits h) where
  steps : Under 0x70 (h.stopstepping % 2 * 0x10 + h.startstepping % 2 * 0x20 + h.deflectionstepping % 2 * 0x40)
  steps =
      one_of 0x70 8 (λ v. v * 0x10) tt (h.stopstepping % 2 + 2 * (h.startstepping % 2) + 4 * (h.deflectionstepping % 2)) _ (omega arith) (omega arith)

  quarter : (j : ℕ) → j < 4 → Under (mask37 j) (quarter_of h j)
  unfolding quarter_of
  quarter =
      each (λ j. Under (mask37 j) (quarter_of h j)) 4 (steps & low 8 _ (omega arith) & low 8 _ (omega arith) & low 8 _ (omega arith) & end)

  ground : (j : ℕ) → j < 8 → Under (mask38 j) (ground_at h j)
  unfolding ground_at is_plain
  ground =
      each (λ j. Under (mask38 j) (ground_at h j)) 8
      (low 8 h.ground (fits.plain (row_of Ground) refl) & refl & refl & refl & refl & refl & refl & refl & end)

  flaps : Under 0xF0 (h.flap1 % 2 * 0x10 + h.flap2 % 2 * 0x20 + h.flap3 % 2 * 0x40 + h.clock % 2 * 0x80)
  flaps =
      one_of 0xF0 16 (λ v. v * 0x10) tt (h.flap1 % 2 + 2 * (h.flap2 % 2) + 4 * (h.flap3 % 2) + 8 * (h.clock % 2)) _ (omega arith) (omega arith)

  last : (j : ℕ) → j < 32 → Under (mask39 j) (mux_of h l j)
  unfolding mux_of is_plain
  last =
      each (λ j. Under (mask39 j) (mux_of h l j)) 32 (
      low 8 _ (omega arith) & low 8 _ (omega arith) & low 8 _ (omega arith) & low 8 _ (omega arith)
      & refl & refl & refl & refl & refl & refl & refl & refl & flaps & refl & refl & refl
      & refl & refl & refl & refl & refl & low 8 _ (fits.plain (row_of LastCheck) refl) & low 8 _ (fits.plain (row_of InvalidCount) refl) & refl
      & refl & refl & refl & low 8 _ (omega arith) & low 8 _ (omega arith) & refl & refl & field 0x70 8 0x10 tt (h.mask % 8) (omega arith)
      & end)

  -- bytes 37 and 38 go by the index modulo 4 and 8
  quarter_at : Under (mask37 (i % 32)) (quarter_of h (i % 4))
  quarter_at =
      let e : i % 4 % 4 ≡ i % 32 % 4 = omega arith in
      let m : mask37 (i % 4) ≡ mask37 (i % 32) = ap quarter_mask e in
      subst (λ (x : ℕ). Under x (quarter_of h (i % 4))) m (quarter (i % 4) (omega arith))

  ground_at_lem : Under (mask38 (i % 32)) (ground_at h (i % 8))
  ground_at_lem =
      let e : i % 8 % 8 ≡ i % 32 % 8 = omega arith in
      let m : mask38 (i % 8) ≡ mask38 (i % 32) = ap (λ (j : ℕ). pick (eqb j 0) 0xFF 0x00) e in
      subst (λ (x : ℕ). Under x (ground_at h (i % 8))) m (ground (i % 8) (omega arith))

  muxes : Under 0x49 (h.mux1 % 2 * 0x01 + h.mux2 % 2 * 0x08 + h.mux3 % 2 * 0x40)
  muxes =
      one_of 0x49 8 (λ v. v % 2 * 0x01 + v / 2 % 2 * 0x08 + v / 4 * 0x40) tt (h.mux1 % 2 + 2 * (h.mux2 % 2) + 4 * (h.mux3 % 2)) _ (omega arith) (omega arith)

  pub zeros : (b : ℕ) → b < 40 → Under (get_or (masks (i % 32)) b 0) (get_or (frame_of h i l) b 0)
  unfolding frame_of is_plain
  zeros =
      each (λ b. Under (get_or (masks (i % 32)) b 0) (get_or (frame_of h i l) b 0)) 40 (
      low 5 (i % 32) (omega arith)
      & field 0x40 2 0x40 tt (h.parallel % 2) (omega arith)
      & field 0x40 2 0x40 tt (h.relay % 2) (omega arith)
      & refl & refl & refl
      & muxes
      & field 0xF0 16 0x10 tt (h.error % 16) (omega arith)
      & low 4 _ (omega arith)
      & low 8 _ (omega arith)
      & low 8 _ (omega arith)
      & refl & refl & refl & refl & refl
      & low 8 h.last (fits.plain (row_of LastInvalidCode) refl)
      & refl & refl
      & field 0x80 2 0x80 tt (h.enable % 2) (omega arith)
      & low 6 _ (omega arith)
      & refl & refl & refl & refl & refl & refl & refl & refl & refl & refl & refl & refl & refl & refl & refl
      & low 8 h.bias (fits.plain (row_of Bias) refl)
      & quarter_at
      & ground_at_lem
      & last (i % 32) (omega arith)
      & end)

-- 32 indices, 40 bytes
pub masked : (i b : ℕ) → i < 32 → b < 40 → get_or (masks i) b 0 ≡ taken rows i b
masked i b h k =
    eqb→eq _ _ (below (λ j. eqb (get_or (masks i) j 0) (taken rows i j)) 40 (below (λ j. all_below (λ c. eqb (get_or (masks j) c 0) (taken rows j c)) 40) 32 tt i h) b k)
