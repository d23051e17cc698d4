-- What is read out of 40 bytes: what arrived, and each plain item by one rule over one table (01, "The 40-byte frame").
-- Assumes nothing.
use Rattle.std.specs.Prelude.{Bool, true, false, List, [], ◌∷◌, ℕ, zero, suc, ◌+◌, ◌-◌, ◌*◌, ◌/◌, ◌%◌, ◌^◌, eqb, ltb, length, get_or, Some, None, Ok, Err}
use Rattle.base.specs.Pick.{pick}
use Rattle.frame.specs.declared.Arrived.TheVariants.{FillC0, FillFF}
use Rattle.frame.specs.declared.Turn.{Turn}
use Rattle.frame.specs.Shapes.{Reading, Came, turn, whole}
use Rattle.frame.specs.Items.{items, numbered}

-- The frames that carry something: those whose index modulo `period` is `phase`.
pub record When : Type 0 where
  pub period : ℕ
  pub phase : ℕ

abbrev pub modulo : ℕ → ℕ → When
modulo p q = record { period = p; phase = q }

-- every frame
abbrev pub always : When
always = modulo 1 0

-- the frame of index i
abbrev pub index : ℕ → When
index i = modulo 32 i

-- Bits `mask` of byte `byte`, in the frames of `when`.
pub record Place : Type 0 where
  pub byte : ℕ
  pub mask : ℕ
  pub when : When

abbrev pub at : ℕ → ℕ → When → Place
at b m w = record { byte = b; mask = m; when = w }

-- where an item stands: its high bits first
abbrev pub Row : Type 0
Row = List Place

abbrev pub one : ℕ → ℕ → When → Row
one b m w = at b m w ∷ []

abbrev pub rows : List Row
rows =
    -- byte (mask) frames
    one 1 0x40 always ∷  -- serial/parallel
    one 6 0x01 always ∷  -- E multiplexer 1
    one 6 0x08 always ∷  -- E multiplexer 2
    one 6 0x40 always ∷  -- E multiplexer 3
    one 7 0xF0 always ∷  -- error code
    (at 8 0x0F always ∷ at 9 0x80 always ∷ []) ∷  -- direction stop, bits 4-1 and bit 0
    one 9 0x7C always ∷  -- direction start
    (at 9 0x03 always ∷ at 10 0xE0 always ∷ []) ∷  -- energy stop, bits 4-3 and bits 2-0
    one 10 0x1F always ∷  -- energy start
    one 16 0xFF always ∷  -- last invalid code
    one 19 0x80 always ∷  -- IEL enable
    one 20 0x3F always ∷  -- EDB counter minus 1, modulo 64
    one 36 0xFF always ∷  -- bias
    one 2 0x40 always ∷  -- relay, ERDRELS2
    one 38 0xFF (modulo 8 0) ∷  -- ground
    one 37 0x10 (modulo 4 0) ∷  -- stop's stepping, ERDSPMCP
    one 37 0xF0 (modulo 4 2) ∷  -- stop's limit, ERDSPMVL
    one 37 0xF0 (modulo 4 3) ∷  -- stop's level, ERDSPMHC
    one 39 0x10 (index 12) ∷  -- flap 1
    one 39 0x20 (index 12) ∷  -- flap 2
    one 39 0x40 (index 12) ∷  -- flap 3
    one 39 0x80 (index 12) ∷  -- IEL clock
    one 39 0xFF (index 21) ∷  -- last check
    one 39 0xFF (index 22) ∷  -- invalid count
    one 39 0x70 (index 31) ∷  -- head mask
    (at 39 0xFF (index 0) ∷ at 39 0xFF (index 1) ∷ at 39 0xFF (index 2) ∷ at 39 0xFF (index 3) ∷ []) ∷  -- long EDB counter, high byte first
    (at 39 0xFF (index 27) ∷ at 39 0xFF (index 28) ∷ []) ∷  -- free time, high byte first
    one 37 0x20 (modulo 4 0) ∷  -- start's stepping, ERDSTMCP
    one 37 0x0F (modulo 4 2) ∷  -- start's limit, ERDSTMVL
    one 37 0x0F (modulo 4 3) ∷  -- start's level, ERDSTMHC
    one 37 0x40 (modulo 4 0) ∷  -- deflection's stepping, ERDDHVSE
    one 37 0xF0 (modulo 4 1) ∷  -- deflection's limit, ERDDPHLD
    one 37 0x0F (modulo 4 1) ∷ []  -- deflection's level, ERDDPHCL

-- the first and the last place of a row
abbrev pub first_of : Row → Place
first_of [] = at 0 0 always
first_of (p ∷ ps) = p

abbrev pub last_of : Row → Place
last_of [] = at 0 0 always
last_of (p ∷ []) = p
last_of (p ∷ q ∷ ps) = last_of (q ∷ ps)

-- An item is read from a word of two bytes, high first, that ends with its last byte. The bits of that word that a place takes: none, where it
-- is in another frame than the last.
abbrev pub in_word : Place → Place → ℕ
in_word l p = pick (eqb p.when.phase l.when.phase) (p.mask * 256 ^ (l.byte - p.byte)) 0

abbrev pub mask_of : Place → Row → ℕ
mask_of l [] = 0
mask_of l (p ∷ ps) = in_word l p + mask_of l ps

-- the weight of the lowest bit of a mask of up to n bits
abbrev pub lowest : ℕ → ℕ → ℕ
lowest zero m = 1
lowest (suc n) m = pick (eqb (m % 2) 1) 1 (2 * lowest n (m / 2))

-- The word is divided by `div`, and the item is the remainder by `rem`: how many values its bits have.
abbrev pub div : Row → ℕ
div r = lowest 16 (mask_of (last_of r) r)

abbrev pub rem : Row → ℕ
rem r = mask_of (last_of r) r / div r + 1

abbrev pub column : (Row → ℕ) → List Row → List ℕ
column f [] = []
column f (r ∷ rs) = f r ∷ column f rs

abbrev pub byte_of : ℕ → ℕ
byte_of k = get_or (column (λ r. (last_of r).byte - 1) rows) k 0

abbrev pub div_of : ℕ → ℕ
div_of k = get_or (column div rows) k 0

abbrev pub rem_of : ℕ → ℕ
rem_of k = get_or (column rem rows) k 0

-- the frames that bring the item: of a number spread over frames, its last byte
abbrev pub period_of : ℕ → ℕ
period_of k = get_or (column (λ r. (last_of r).when.period) rows) k 0

abbrev pub phase_of : ℕ → ℕ
phase_of k = get_or (column (λ r. (last_of r).when.phase) rows) k 0

-- how many slots old its first frame is then
abbrev pub born_of : ℕ → ℕ
born_of k = get_or (column (λ r. (last_of r).when.phase - (first_of r).when.phase) rows) k 0

-- an item that one frame brings whole; the others are spread over frames
unfoldable pub is_plain : ℕ → Bool
is_plain k = pick (ltb k items) (eqb (born_of k) 0) false

-- byte 0 (1F)
abbrev pub index_of : List ℕ → ℕ
index_of f = get_or f 0 0 % 32

abbrev pub field_of : List ℕ → ℕ → ℕ
field_of f k = (get_or f (byte_of k) 0 * 256 + get_or f (byte_of k + 1) 0) / div_of k % rem_of k

-- does the frame of index i bring the item in row k?
abbrev pub carries : ℕ → ℕ → Bool
carries k i = eqb (i % period_of k) (phase_of k)

-- what a whole frame tells of the item in row k: of a plain item its value, where the frame carries it
unfoldable pub read_of : List ℕ → ℕ → Reading
read_of f k =
    pick (eqb (length f) 40)
    (pick (is_plain k) (pick (carries k (index_of f)) (Some (field_of f k)) None) None)
    None

-- are the bytes all b?
unfoldable pub all_are : ℕ → List ℕ → Bool
all_are b [] = true
all_are b (x ∷ xs) = pick (eqb x b) (all_are b xs) false

-- a frame's turn: its index, and byte 39
abbrev pub turn_of : List ℕ → Turn
turn_of f = turn (index_of f) (get_or f 39 0)

-- 17: not 40 bytes; 40 equal bytes C0h or FFh are fill; anything else is a whole frame: its index, and byte 39
unfoldable pub arrived_of : List ℕ → Came
arrived_of f =
    pick (eqb (length f) 40)
    (pick (all_are 0xC0 f) (Ok FillC0)
    (pick (all_are 0xFF f) (Ok FillFF)
    (whole (index_of f) (get_or f 39 0))))
    (Err (numbered 17))
