-- The check of a list from a place on: one byte more, and at the end. The loop of `check_of` goes by these.
-- Assumes nothing.
use mathlib.Core.Path.{◌≡◌}
use Prim.Native.Nat.{ℕ, ◌+◌, ◌≤◌, ◌<◌}
use native.Mathlib.Numerals.{add-one}
use mathlib.Core.List.{List}
use lib.ListN.{length, drop, get_or, drop_of_length-le}
use lib.Seq.{drop-cons}
use Rattle.crc.specs.Crc.{crc_byte, crc_from}

pub from_more : (s : List ℕ) (i c : ℕ) → i < length s → crc_from (crc_byte c (get_or s i 0)) (drop (i + 1) s) ≡ crc_from c (drop i s)
unfolding crc_from
from_more s i c h = rw (add-one, drop-cons s i 0)

pub from_end : (s : List ℕ) (i c : ℕ) → length s ≤ i → crc_from c (drop i s) ≡ c
unfolding crc_from
from_end s i c h = rw drop_of_length-le
