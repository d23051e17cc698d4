-- Bench cases a and c of 01, as bytes of the frame: whatever else is held, at every index.
-- Assumes nothing.
use mathlib.Core.Path.{◌≡◌}
use Prim.Native.Nat.{ℕ}
use lib.ListN.{get_or}
use Rattle.frame.specs.declared.Held.{Held}
use Rattle.frame.specs.Write.{frame_of}

module _ (h : Held) (i l : ℕ) where
  -- a. energy window start 01h, stop 00h: byte 10 is 01h
  case_a : h.estart ≡ 0x01 → h.estop ≡ 0x00 → get_or (frame_of h i l) 10 0 ≡ 0x01
  unfolding frame_of
  case_a s e = rw (s, e)

  -- c. direction window start 03h, stop 13h, energy stop 00h: byte 8 is 09h, byte 9 8Ch
  case_c : h.dstart ≡ 0x03 → h.dstop ≡ 0x13 → h.estop ≡ 0x00 → (get_or (frame_of h i l) 8 0 ≡ 0x09) × (get_or (frame_of h i l) 9 0 ≡ 0x8C)
  unfolding frame_of
  case_c s e f = (rw e, rw (s, e, f))
