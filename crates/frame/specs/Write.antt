-- The 40 bytes of a frame, byte by byte as 01 "The 40-byte frame" places them, and where in the caller's buffer they go.
-- Level, limit and stepping of the three supplies (02 (iv)) and the relay are where the table of G chapter 4 puts them. Other bits are 0. Assumes nothing.
use Rattle.std.specs.Prelude.{List, [], ◌∷◌, ◌++◌, ℕ, ◌+◌, ◌*◌, ◌/◌, ◌%◌, eqb, ltb, length, take, drop, Ok, Err}
use Rattle.base.specs.Pick.{pick}
use Rattle.frame.specs.declared.Held.{Held}
use Rattle.frame.specs.Shapes.{Wrote}
use Rattle.frame.specs.Items.{numbered}

-- "a number spread over several frames is latched when its first is built": the long EDB counter at index 0, the free time at 27
abbrev pub latch_of : Held → ℕ → ℕ → ℕ
latch_of h i l = pick (eqb (i % 32) 0) h.long (pick (eqb (i % 32) 27) h.free l)

-- byte 37 by the index modulo 4: 0 (10, 20, 40) stepping of stop, start and deflection, ERDSPMCP, ERDSTMCP, ERDDHVSE;
-- 1 (F0) deflection's limit, ERDDPHLD, (0F) its level, ERDDPHCL; 2 limits, (F0) stop's, ERDSPMVL, (0F) start's, ERDSTMVL;
-- 3 levels, (F0) stop's, ERDSPMHC, (0F) start's, ERDSTMHC
unfoldable pub quarter_of : Held → ℕ → ℕ
quarter_of h i =
    pick (eqb i 0) (h.stopstepping % 2 * 0x10 + h.startstepping % 2 * 0x20 + h.deflectionstepping % 2 * 0x40)
    (pick (eqb i 1) (h.deflectionlimit % 16 * 0x10 + h.deflectionlevel % 16)
    (pick (eqb i 2) (h.stoplimit % 16 * 0x10 + h.startlimit % 16)
    (pick (eqb i 3) (h.stoplevel % 16 * 0x10 + h.startlevel % 16) 0)))

-- byte 38 by the index modulo 8: 0 ground
unfoldable pub ground_at : Held → ℕ → ℕ
ground_at h i = pick (eqb i 0) h.ground 0

-- byte 39 by the index: 0-3 long EDB counter, high byte first; 12 (10, 20, 40) flaps, (80) IEL clock; 21 last check;
-- 22 invalid count; 27-28 free time, high first; 31 (70) head mask. The two spread numbers are written from the latch l.
unfoldable pub mux_of : Held → ℕ → ℕ → ℕ
mux_of h l i =
    pick (eqb i 0) (l / 256 / 256 / 256 % 256)
    (pick (eqb i 1) (l / 256 / 256 % 256)
    (pick (eqb i 2) (l / 256 % 256)
    (pick (eqb i 3) (l % 256)
    (pick (eqb i 12) (h.flap1 % 2 * 0x10 + h.flap2 % 2 * 0x20 + h.flap3 % 2 * 0x40 + h.clock % 2 * 0x80)
    (pick (eqb i 21) h.check
    (pick (eqb i 22) h.count
    (pick (eqb i 27) (l / 256 % 256)
    (pick (eqb i 28) (l % 256)
    (pick (eqb i 31) (h.mask % 8 * 0x10) 0)))))))))

-- the frame of index i that shows h, with the latch l (the one after `latch_of`)
unfoldable pub frame_of : Held → ℕ → ℕ → List ℕ
frame_of h i l =
    i % 32  -- 0 (1F) frame index
    ∷ h.parallel % 2 * 0x40  -- 1 (40) serial/parallel
    ∷ h.relay % 2 * 0x40  -- 2 (40) relay, ERDRELS2
    ∷ 0 ∷ 0 ∷ 0
    ∷ (h.mux1 % 2 * 0x01 + h.mux2 % 2 * 0x08 + h.mux3 % 2 * 0x40)  -- 6 (01, 08, 40) E multiplexers 1-3
    ∷ h.error % 16 * 0x10  -- 7 (F0) error code
    ∷ h.dstop % 32 / 2  -- 8 (0F) direction stop bits 4-1
    ∷ (h.dstop % 2 * 0x80 + h.dstart % 32 * 0x04 + h.estop % 32 / 8)  -- 9 (80) direction stop bit 0, (7C) direction start, (03) energy stop bits 4-3
    ∷ (h.estop % 8 * 0x20 + h.estart % 32)  -- 10 (E0) energy stop bits 2-0, (1F) energy start
    ∷ 0 ∷ 0 ∷ 0 ∷ 0 ∷ 0
    ∷ h.last  -- 16 last invalid code
    ∷ 0 ∷ 0
    ∷ h.enable % 2 * 0x80  -- 19 (80) IEL enable
    ∷ h.reduced % 64  -- 20 (3F) EDB counter minus 1, modulo 64
    ∷ 0 ∷ 0 ∷ 0 ∷ 0 ∷ 0 ∷ 0 ∷ 0 ∷ 0 ∷ 0 ∷ 0 ∷ 0 ∷ 0 ∷ 0 ∷ 0 ∷ 0
    ∷ h.bias  -- 36 bias
    ∷ quarter_of h (i % 4)  -- 37
    ∷ ground_at h (i % 8)  -- 38
    ∷ mux_of h l (i % 32)  -- 39
    ∷ []

-- 18: fewer than 40 bytes from the named place on, or the place past the end; then nothing changes
abbrev pub wrote_of : ℕ → List ℕ → Wrote
wrote_of at b = pick (ltb (length b) (at + 40)) (Err (numbered 18)) (Ok tt)

abbrev pub written : Held → ℕ → ℕ → ℕ → List ℕ → List ℕ
written h i l at b = pick (ltb (length b) (at + 40)) b (take at b ++ (frame_of h i l ++ drop (at + 40) b))
