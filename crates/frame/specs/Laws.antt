-- What is true of every frame (01, "The 40-byte frame"), said once over the rows: what is written is what is read, and nothing else is told.
-- The bytes (`frame_of`) and the table (`rows`) are written apart; these laws tie them. Assumes nothing.
use Rattle.std.specs.Prelude.{◌≡◌, Bool, true, false, ◌&&◌, List, [], ◌∷◌, ℕ, ◌+◌, ◌*◌, ◌%◌, ◌^◌, ◌<◌, eqb, ltb, length, get_or, replicate, Some, None}
use Rattle.std.specs.Int.Bits.{bit_and}
use Rattle.base.specs.Pick.{pick}
use Rattle.frame.specs.declared.Held.{Held}
use Rattle.frame.specs.declared.Item.{Item}
use Rattle.frame.specs.declared.Item.TheVariants.{LongCounter, FreeTime}
use Rattle.frame.specs.Shapes.{whole as whole_frame}
use Rattle.frame.specs.declared.Refusal.TheVariants.{NotForty, NoRoom}
use Rattle.frame.specs.Items.{items, row_of, held_at, number_of}
use Rattle.frame.specs.Write.{latch_of, frame_of}
use Rattle.frame.specs.Read.{Place, Row, rows, rem_of, is_plain, carries, index_of, read_of, arrived_of}

abbrev pub byte39 : List ℕ → ℕ
byte39 f = get_or f 39 0

-- indices whose byte 39 is one of a spread number's: 0-3 and 27-28
abbrev pub spreads : ℕ → Bool
spreads i = pick (ltb i 4) true (pick (eqb i 27) true (eqb i 28))

-- The bits that are read, as 01 masks them: of byte 37, 38 and 39 by the index.
abbrev pub quarter_mask : ℕ → ℕ
quarter_mask j = get_or (0x70 ∷ 0xFF ∷ 0xFF ∷ 0xFF ∷ []) j 0

abbrev pub mask37 : ℕ → ℕ
mask37 i = quarter_mask (i % 4)

abbrev pub mask38 : ℕ → ℕ
mask38 i = pick (eqb (i % 8) 0) 0xFF 0x00

abbrev pub mask39 : ℕ → ℕ
mask39 i =
    pick (spreads i) 0xFF
    (pick (eqb i 12) 0xF0
    (pick (eqb i 21) 0xFF
    (pick (eqb i 22) 0xFF
    (pick (eqb i 31) 0x70 0x00))))

abbrev pub masks : ℕ → List ℕ
masks i =
    0x1F ∷ 0x40 ∷ 0x40 ∷ 0 ∷ 0 ∷ 0 ∷ 0x49 ∷ 0xF0 ∷ 0x0F ∷ 0xFF  -- 0-9
    ∷ 0xFF ∷ 0 ∷ 0 ∷ 0 ∷ 0 ∷ 0 ∷ 0xFF ∷ 0 ∷ 0 ∷ 0x80  -- 10-19
    ∷ 0x3F ∷ 0 ∷ 0 ∷ 0 ∷ 0 ∷ 0 ∷ 0 ∷ 0 ∷ 0 ∷ 0  -- 20-29
    ∷ 0 ∷ 0 ∷ 0 ∷ 0 ∷ 0 ∷ 0 ∷ 0xFF ∷ mask37 i ∷ mask38 i ∷ mask39 i ∷ []  -- 30-39

-- the bits of byte b of the frame of index i that a place takes; that the rows take; and with them the index in byte 0
abbrev pub bits_at : Place → ℕ → ℕ → ℕ
bits_at p i b = pick (eqb b p.byte && eqb (i % p.when.period) p.when.phase) p.mask 0

abbrev pub bits_of : Row → ℕ → ℕ → ℕ
bits_of [] i b = 0
bits_of (p ∷ ps) i b = bits_at p i b + bits_of ps i b

abbrev pub taken : List Row → ℕ → ℕ → ℕ
taken [] i b = pick (eqb b 0) 0x1F 0
taken (r ∷ rs) i b = bits_of r i b + taken rs i b

-- each item is within its width
pub record Fits (h : Held) : Type 0 where
  pub plain : (k : ℕ) → is_plain k ≡ true → held_at h k < rem_of k
  pub long : h.long < 2 ^ 32
  pub free : h.free < 2 ^ 16

-- 40 bytes
pub record Frame (f : List ℕ) : Type 0 where
  pub forty : length f ≡ 40
  pub bytes : (b : ℕ) → get_or f b 0 < 256

-- two frames that differ in unread bits alone
pub record Alike (f g : List ℕ) : Type 0 where
  pub first : Frame f
  pub second : Frame g
  pub masked : (b : ℕ) → bit_and (get_or f b 0) (get_or (masks (index_of f)) b 0) ≡ bit_and (get_or g b 0) (get_or (masks (index_of f)) b 0)

pub record Laws : Type 0 where
  -- all items are plain but the two that are spread over frames
  pub plain : (x : Item) → (x ≡ LongCounter → ⊥) → (x ≡ FreeTime → ⊥) → is_plain (row_of x) ≡ true
  -- each plain item that a frame carries reads back, modulo its width; of any other the frame says nothing
  pub back : (h : Held) (i l k : ℕ) → is_plain k ≡ true → carries k i ≡ true → read_of (frame_of h i l) k ≡ Some (held_at h k % rem_of k)
  pub exact : (h : Held) (i l k : ℕ) → Fits h → is_plain k ≡ true → carries k i ≡ true → read_of (frame_of h i l) k ≡ Some (held_at h k)
  pub silent : (h : Held) (i l k : ℕ) → is_plain k ≡ true → carries k i ≡ false → read_of (frame_of h i l) k ≡ None
  -- a frame that does not carry an item tells nothing of it: with that item alone changed the bytes are the same
  pub hides : (h g : Held) (i l k : ℕ) → k < items → ((j : ℕ) → (j ≡ k → ⊥) → held_at h j ≡ held_at g j) → carries k i ≡ false
      → frame_of h i l ≡ frame_of g i l
  -- the long EDB counter: byte 39 of frames 0-3, built on end, joined high first, is what was held at frame 0 (m is the latch before)
  pub long : (a b c d : Held) (m : ℕ) → a.long < 2 ^ 32 → (l₀ l₁ l₂ l₃ : ℕ)
      → l₀ ≡ latch_of a 0 m → l₁ ≡ latch_of b 1 l₀ → l₂ ≡ latch_of c 2 l₁ → l₃ ≡ latch_of d 3 l₂
      → ((byte39 (frame_of a 0 l₀) * 256 + byte39 (frame_of b 1 l₁)) * 256 + byte39 (frame_of c 2 l₂)) * 256 + byte39 (frame_of d 3 l₃) ≡ a.long
  -- the free time: byte 39 of frames 27 and 28 likewise
  pub free : (a b : Held) (m : ℕ) → a.free < 2 ^ 16 → (l₀ l₁ : ℕ) → l₀ ≡ latch_of a 27 m → l₁ ≡ latch_of b 28 l₀
      → byte39 (frame_of a 27 l₀) * 256 + byte39 (frame_of b 28 l₁) ≡ a.free
  -- at every other index no byte depends on the latch; only 0 and 27 set it
  pub unlatched : (h : Held) (i l m : ℕ) → spreads (i % 32) ≡ false → frame_of h i l ≡ frame_of h i m
  pub stays : (h : Held) (i l : ℕ) → (i % 32 ≡ 0 → ⊥) → (i % 32 ≡ 27 → ⊥) → latch_of h i l ≡ l
  -- 40 bytes that are neither fill are a whole frame, whoever built it
  pub no_other : (f : List ℕ) → length f ≡ 40 → (f ≡ replicate 40 0xC0 → ⊥) → (f ≡ replicate 40 0xFF → ⊥) → arrived_of f ≡ whole_frame (index_of f) (byte39 f)
  -- a built frame arrives whole, and is never 40 equal bytes, but for 0
  pub whole : (h : Held) (i l : ℕ) → arrived_of (frame_of h i l) ≡ whole_frame (i % 32) (byte39 (frame_of h i l))
  pub no_fill : (h : Held) (i l x : ℕ) → 0 < x → frame_of h i l ≡ replicate 40 x → ⊥
  -- bits that 01 does not name are not read
  pub unread : (f g : List ℕ) → Alike f g → (k : ℕ) → (index_of f ≡ index_of g) × (read_of f k ≡ read_of g k)
  pub unread_spread : (f g : List ℕ) → Alike f g → spreads (index_of f) ≡ true → byte39 f ≡ byte39 g
  -- and are written 0
  pub zeros : (h : Held) (i l b : ℕ) → b < 40 → Fits h → bit_and (get_or (frame_of h i l) b 0) (get_or (masks (i % 32)) b 0) ≡ get_or (frame_of h i l) b 0
  -- the masks are exactly those of the rows, with the index: no bit more, none twice
  pub masked : (i b : ℕ) → i < 32 → b < 40 → get_or (masks i) b 0 ≡ taken rows i b
  -- 01's numbers
  pub numbers : (number_of NotForty ≡ 17) × (number_of NoRoom ≡ 18)
