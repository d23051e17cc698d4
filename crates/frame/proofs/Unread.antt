-- Two frames that differ in unread bits alone give the same readings: each row's word lies under the masks.
-- Assumes nothing.
use Rattle.std.specs.Prelude.{Some}
use mathlib.Core.Path.{◌≡◌, refl, sym, ap, ◌∙◌}
use mathlib.Core.Bool.{true}
use mathlib.Core.List.{List}
use Prim.Native.Nat.{ℕ, ◌-◌, ◌/◌, ◌%◌, ◌^◌}
use native.Mathlib.Nat.{mod-mod}
use native.Mathlib.Omega.{arith}
use lib.Bits.{bit_and, and_shr, and_mod, and_mask}
use lib.ListN.{get_or}
use borrow.Author.Tests.{eq-eqb, eqb-true}
use Rattle.frame.specs.Read.{period_of, phase_of, is_plain, carries, index_of, field_of, read_of}
use Rattle.frame.specs.Laws.{byte39, spreads, mask37, mask39, masks, Alike}
use Rattle.frame.proofs.Each.{◌&◌, end}
use Rattle.frame.proofs.Rows.{each_plain, spread}
use Rattle.frame.proofs.Tells.{pick_same}

-- the j bits from bit k on, where the mask has them all
masked_part : (x m k j : ℕ) → m / 2 ^ k % 2 ^ j ≡ 2 ^ j - 1 → x / 2 ^ k % 2 ^ j ≡ bit_and x m / 2 ^ k % 2 ^ j
masked_part x m k j c =
    sym (
    ap (λ (n : ℕ). n % 2 ^ j) (and_shr x m k)
    ∙ and_mod (x / 2 ^ k) (m / 2 ^ k) j
    ∙ ap (bit_and (x / 2 ^ k % 2 ^ j)) c
    ∙ and_mask (x / 2 ^ k % 2 ^ j) j
    ∙ mod-mod (x / 2 ^ k) (2 ^ j)
    )

part_same : (x y m k j : ℕ) → m / 2 ^ k % 2 ^ j ≡ 2 ^ j - 1 → bit_and x m ≡ bit_and y m → x / 2 ^ k % 2 ^ j ≡ y / 2 ^ k % 2 ^ j
part_same x y m k j c e = masked_part x m k j c ∙ ap (λ (n : ℕ). n / 2 ^ k % 2 ^ j) e ∙ sym (masked_part y m k j c)

module _ (f g : List ℕ) (a : Alike f g) where
  -- byte b agrees in the j bits from bit k on
  part : (b m k j : ℕ) → get_or (masks (index_of f)) b 0 ≡ m → m / 2 ^ k % 2 ^ j ≡ 2 ^ j - 1 → get_or f b 0 / 2 ^ k % 2 ^ j ≡ get_or g b 0 / 2 ^ k % 2 ^ j
  part b m k j e c =
      part_same (get_or f b 0) (get_or g b 0) m k j c
      (ap (bit_and (get_or f b 0)) (sym e) ∙ a.masked b ∙ ap (bit_and (get_or g b 0)) e)

  -- a byte of which each bit is read
  byte_same : (b : ℕ) → get_or (masks (index_of f)) b 0 ≡ 0xFF → get_or f b 0 ≡ get_or g b 0
  byte_same b e =
      let p = part b 0xFF 0 8 e refl in
      omega (arith, a.first.bytes b, a.second.bytes b)

  pub index_same : index_of f ≡ index_of g
  index_same = let p = part 0 0x1F 0 5 refl refl in omega arith

  at : (j : ℕ) → index_of f % 32 ≡ j → mask39 (index_of f) ≡ mask39 j
  at j e = let q : index_of f ≡ j = omega arith in ap mask39 q

  abbrev Same : ℕ → Type 0
  Same k = index_of f % period_of k ≡ phase_of k → field_of f k ≡ field_of g k

  field_same : (k : ℕ) → is_plain k ≡ true → Same k
  unfolding is_plain
  field_same =
      each_plain Same (
      (λ r e. let p = part 1 0x40 6 1 refl refl in omega arith)
      & (λ r e. let p = part 6 0x49 0 1 refl refl in omega arith)
      & (λ r e. let p = part 6 0x49 3 1 refl refl in omega arith)
      & (λ r e. let p = part 6 0x49 6 1 refl refl in omega arith)
      & (λ r e. let p = part 7 0xF0 4 4 refl refl in omega arith)
      & (λ r e. let p = part 8 0x0F 0 4 refl refl in let q = byte_same 9 refl in omega (arith, a.first.bytes 9))
      & (λ r e. let q = byte_same 9 refl in omega arith)
      & (λ r e. let p = byte_same 9 refl in let q = byte_same 10 refl in rw (p, q))
      & (λ r e. let q = byte_same 10 refl in omega arith)
      & (λ r e. let q = byte_same 16 refl in omega arith)
      & (λ r e. let p = part 19 0x80 7 1 refl refl in omega arith)
      & (λ r e. let p = part 20 0x3F 0 6 refl refl in omega arith)
      & (λ r e. let q = byte_same 36 refl in omega arith)
      & (λ r e. let p = part 2 0x40 6 1 refl refl in omega arith)
      & (λ r e. let q = byte_same 38 (rw e) in omega arith)
      & (λ r e. let p = part 37 (mask37 0) 4 1 (rw e) refl in omega arith)
      & (λ r e. let p = part 37 (mask37 2) 4 4 (rw e) refl in omega arith)
      & (λ r e. let p = part 37 (mask37 3) 4 4 (rw e) refl in omega arith)
      & (λ r e. let p = part 39 0xF0 4 1 (at 12 e) refl in omega arith)
      & (λ r e. let p = part 39 0xF0 5 1 (at 12 e) refl in omega arith)
      & (λ r e. let p = part 39 0xF0 6 1 (at 12 e) refl in omega arith)
      & (λ r e. let p = part 39 0xF0 7 1 (at 12 e) refl in omega arith)
      & (λ r e. let q = byte_same 39 (at 21 e) in omega arith)
      & (λ r e. let q = byte_same 39 (at 22 e) in omega arith)
      & (λ r e. let p = part 39 0x70 4 3 (at 31 e) refl in omega arith)
      & spread
      & spread
      & (λ r e. let p = part 37 (mask37 0) 5 1 (rw e) refl in omega arith)
      & (λ r e. let p = part 37 (mask37 2) 0 4 (rw e) refl in omega arith)
      & (λ r e. let p = part 37 (mask37 3) 0 4 (rw e) refl in omega arith)
      & (λ r e. let p = part 37 (mask37 0) 6 1 (rw e) refl in omega arith)
      & (λ r e. let p = part 37 (mask37 1) 4 4 (rw e) refl in omega arith)
      & (λ r e. let p = part 37 (mask37 1) 0 4 (rw e) refl in omega arith)
      & end)

  pub read_same : (k : ℕ) → read_of f k ≡ read_of g k
  unfolding read_of
  read_same k =
      rw (eq-eqb _ _ a.first.forty, eq-eqb _ _ a.second.forty, ← index_same)
      (pick_same (is_plain k)
      (λ t. pick_same (carries k (index_of f)) (λ c. value (field_same k t (eqb-true _ _ c))) (λ n. refl))
      (λ n. refl))
    where
      value : {m n : ℕ} → m ≡ n → Some m ≡ Some n
      value e = ap Some e

  pub spread_same : spreads (index_of f) ≡ true → byte39 f ≡ byte39 g
  spread_same e = byte_same 39 (rw e)
