-- What a spot of the table says of its item: it is brought whole or not, by which frames, and where its bits stand.
-- Assumes nothing.
use Rattle.std.specs.Prelude.{Some, None}
use Rattle.std.proofs.Common.{◌≡◌, ℕ, ◌+◌, ◌*◌, ◌/◌, ◌%◌, ◌<◌, true, false, List, length, get_or, ap, sym, eq-eqb, ne_eqb}
use borrow.Author.Tests.{lt-ltb}
use Rattle.frame.specs.declared.Item.{Item}
use Rattle.frame.specs.Items.{row_of}
use Rattle.frame.specs.Read.{field_of, is_plain, carries, read_of}
use Rattle.frame.proofs.Rows.{row_lt, byte_lt, div_pos, rem_pos}
use Rattle.reading.specs.declared.Spot.{Spot}
use Rattle.reading.specs.Spot.{spot_of}

module _ (s : Spot) (x : Item) (e : s ≡ spot_of (row_of x)) where
  at_spot : (f : List ℕ) → (get_or f s.byte 0 * 256 + get_or f (s.byte + 1) 0) / s.div % s.rem ≡ field_of f (row_of x)
  at_spot f = rw e

  pub spot_byte : s.byte < 39
  spot_byte = rw e (byte_lt (row_of x) (row_lt x))

  pub spot_div : 0 < s.div
  spot_div = rw e (div_pos (row_of x) (row_lt x))

  pub spot_rem : 0 < s.rem
  spot_rem = rw e (rem_pos (row_of x) (row_lt x))

  whole : s.born ≡ 0 → is_plain (row_of x) ≡ true
  unfolding is_plain
  whole t = rw (lt-ltb _ _ (row_lt x)) (eq-eqb _ _ (rw e at t))

  spread : (s.born ≡ 0 → ⊥) → is_plain (row_of x) ≡ false
  unfolding is_plain
  spread t = rw (lt-ltb _ _ (row_lt x)) (ne_eqb _ _ (rw e at t))

  brings : (i : ℕ) → i % s.period ≡ s.phase → carries (row_of x) i ≡ true
  brings i t = eq-eqb _ _ (rw e at t)

  lacks : (i : ℕ) → (i % s.period ≡ s.phase → ⊥) → carries (row_of x) i ≡ false
  lacks i t = ne_eqb _ _ (rw e at t)

  pub read_spread : (f : List ℕ) → length f ≡ 40 → (s.born ≡ 0 → ⊥) → read_of f (row_of x) ≡ None
  unfolding read_of
  read_spread f l b = rw (eq-eqb _ _ l, spread b)

  pub read_lacks : (f : List ℕ) → length f ≡ 40 → s.born ≡ 0 → (get_or f 0 0 % 32 % s.period ≡ s.phase → ⊥) → read_of f (row_of x) ≡ None
  unfolding read_of
  read_lacks f l b p = rw (eq-eqb _ _ l, whole b, lacks _ p)

  pub read_brings : (f : List ℕ) → length f ≡ 40 → s.born ≡ 0 → get_or f 0 0 % 32 % s.period ≡ s.phase
      → read_of f (row_of x) ≡ Some ((get_or f s.byte 0 * 256 + get_or f (s.byte + 1) 0) / s.div % s.rem)
  unfolding read_of
  read_brings f l b p = rw (eq-eqb _ _ l, whole b, brings _ p) (ap Some (sym (at_spot f)))

pub read_short : (f : List ℕ) (k : ℕ) → (length f ≡ 40 → ⊥) → read_of f k ≡ None
unfolding read_of
read_short f k n = rw (ne_eqb _ _ n)
