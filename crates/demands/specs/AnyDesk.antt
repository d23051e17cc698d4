-- What one slot does to any desk, whatever bytes it brings: a foreign frame's too.
-- Keeps 01 "The 40-byte frame", its paragraph on the desk. Assumes nothing.
use Rattle.std.specs.Prelude.{◌≡◌, true, false, ◌&&◌, ◌||◌, List, ℕ, ◌+◌, ◌*◌, ◌%◌, min, eqb, length, Some, None}
use Rattle.base.specs.Pick.{pick}
use Rattle.base.specs.Counts.{frames}
use Rattle.frame.specs.declared.Item.{Item}
use Rattle.frame.specs.declared.Item.TheVariants.{LongCounter, FreeTime}
use Rattle.frame.specs.Items.{row_of}
use Rattle.frame.specs.Read.{index_of, field_of, is_plain, carries}
use Rattle.frame.specs.Laws.{byte39, Alike}
use Rattle.desk.specs.declared.Desk.{Desk}
use Rattle.half.specs.Shapes.{Half, part}
use Rattle.cell.specs.Shapes.{Shown, known}
use Rattle.demands.specs.Outfit.{Outfit, fill_c0, fill_ff}

-- a whole frame: 40 bytes that are neither fill
pub record IsWhole (f : List ℕ) : Type 0 where
  pub forty : length f ≡ 40
  pub not_c0 : f ≡ fill_c0 → ⊥
  pub not_ff : f ≡ fill_ff → ⊥

-- one slot older: an age stops at 65,535, and what is unknown stays so
abbrev pub older : Shown → Shown
older None = None
older (Some k) = known k.value (frames (min 65535 (k.age.0 + 1)))

-- The desk keeps, of a spread number half read, the index that must come next and the bytes so far. What a whole frame completes: the number whose last
-- index is this frame's, if this is the next; its first frame is then so old. (Of the bytes so far 24 bits count, as four are the most.)
abbrev pub completed : Half → ℕ → ℕ → List ℕ → Shown
completed None last age f = None
completed (Some p) last age f =
    pick (eqb (index_of f) last && eqb p.next last) (known (p.bytes % 0x1000000 * 256 + byte39 f) (frames age)) None

-- what is complete replaces the older value
abbrev pub replaced : Shown → Shown → Shown
replaced (Some k) old = Some k
replaced None old = older old

-- one byte more of a number half read, if this is the next index
abbrev pub goes_on : Half → ℕ → ℕ → Half
goes_on None i b = None
goes_on (Some p) i b = pick (eqb p.next i) (part (i + 1) (p.bytes % 0x1000000 * 256 + b)) None

-- what is half read after a whole frame: 0 begins the long EDB counter and 27 the free time, 1 and 2 go on with it, any other ends it
abbrev pub half_by : Half → ℕ → ℕ → Half
half_by half i b = pick (eqb i 0 || eqb i 27) (part (i + 1) b) (pick (eqb i 1 || eqb i 2) (goes_on half i b) None)

-- From any desk, of any functions of a desk.
pub record SlotLaws (o : Outfit) : Type 0 where
  -- a fresh desk shows nothing, and has nothing half read
  pub fresh : (item : Item) → o.look o.fresh item ≡ None
  pub fresh_half : o.fresh.half ≡ None
  -- a whole frame shows each plain item that it carries, as the table of rows says, at age 0; every other plain item is a slot older
  pub plain : (d : Desk) (f : List ℕ) (item : Item) → IsWhole f → is_plain (row_of item) ≡ true → carries (row_of item) (index_of f) ≡ true
      → o.look (o.slot d f).desk item ≡ known (field_of f (row_of item)) (frames 0)
  pub other : (d : Desk) (f : List ℕ) (item : Item) → IsWhole f → is_plain (row_of item) ≡ true → carries (row_of item) (index_of f) ≡ false
      → o.look (o.slot d f).desk item ≡ older (o.look d item)
  -- a spread number is replaced where this frame completes it: the long EDB counter at 3, its first frame then 3 slots old, the free time at 28; else it
  -- is a slot older
  pub long : (d : Desk) (f : List ℕ) → IsWhole f → o.look (o.slot d f).desk LongCounter ≡ replaced (completed d.half 3 3 f) (o.look d LongCounter)
  pub free : (d : Desk) (f : List ℕ) → IsWhole f → o.look (o.slot d f).desk FreeTime ≡ replaced (completed d.half 28 1 f) (o.look d FreeTime)
  pub half : (d : Desk) (f : List ℕ) → IsWhole f → (o.slot d f).desk.half ≡ half_by d.half (index_of f) (byte39 f)
  -- a miss: every item is a slot older, and nothing is half read
  pub miss : (d : Desk) (item : Item) → o.look (o.missed d) item ≡ older (o.look d item)
  pub miss_half : (d : Desk) → (o.missed d).half ≡ None
  -- of two whole frames that differ in bits that 01 does not name alone, the desk makes the same
  pub unread : (d : Desk) (f g : List ℕ) → Alike f g → IsWhole f → IsWhole g → o.slot d f ≡ o.slot d g
