-- 01's order of the numbers 19 to 24, of any bytes, and 02's of 25 and 26, of any command and buffer: the first whose condition holds.
-- Keeps 01 "What the numbers mean" and 02 (i); said in their own numbers, apart from the tests that `block`, `event` and `wording` are written with. Assumes nothing.
use Rattle.std.specs.Prelude.{Bool, not, ◌&&◌, ◌||◌, List, [], ◌∷◌, ◌++◌, ℕ, ◌+◌, eqb, leb, ltb, length, get_or, Ok, Err}
use Rattle.base.specs.Pick.{pick}
use Rattle.block.specs.declared.Part.{Part}
use Rattle.block.specs.declared.Part.TheVariants.{Sgl0, DirectEvents, EPad}
use Rattle.block.specs.Tables.{among}
use Rattle.block.specs.Layout.{marker, bit}
use Rattle.block.specs.Parts.{hidden}
use Rattle.wording.specs.declared.Command.{Command}
use Rattle.wording.specs.declared.Command.TheVariants.{Relay, Iel, HeadMask, Target, Limit, Mode, Stepping, Multiplexers, DirectionWindow, EnergyWindow}
use Rattle.wording.specs.Shapes.{Wrote, Meant}
use Rattle.wording.specs.Refusals.{number_of}

-- the first number whose condition holds, and 0 if none does
abbrev pub first_in : List (Bool × ℕ) → ℕ
first_in [] = 0
first_in (t ∷ ts) = pick t.0 t.1 (first_in ts)

abbrev pub nm : List ℕ → Bool
nm b = marker b 0x000 0x14 0x6F 0x2E

abbrev pub bm1 : List ℕ → Bool
bm1 b = marker b 0x000 0x14 0x6F 0x3D

-- descriptor 1, and descriptor 2, which counts as 0 in a memory dump
abbrev pub d1 : List ℕ → ℕ
d1 b = get_or b 4 0

abbrev pub d2 : List ℕ → ℕ
d2 b = pick (bit (d1 b) 2) 0 (get_or b (pick (nm b) 0x14F 0x154) 0)

abbrev pub inner_markers : List ℕ → Bool
inner_markers b = marker b 0x212 0x4C 0x43 0xE2 && marker b 0x475 0x54 0xE1 0xE1

-- of the block: under 3 bytes; no marker; another length than its kind's; an inner marker wrong, which a memory dump is not asked for
abbrev pub of_block : List ℕ → List (Bool × ℕ)
of_block b =
    (ltb (length b) 3, 20)
    ∷ (not (nm b || bm1 b), 19)
    ∷ (not (eqb (length b) (pick (nm b) 512 2304)), 20)
    ∷ (not (nm b) && not (bit (d1 b) 2 || inner_markers b), 21)
    ∷ []

-- of a part then: SGL0 and E-PAD are not in BM1; hidden by test data
abbrev pub of_part : List ℕ → Part → List (Bool × ℕ)
of_part b p = of_block b ++ (not (nm b) && among p (Sgl0 ∷ EPad ∷ []), 22) ∷ (hidden p (d1 b) (d2 b), 23) ∷ []

-- of a direct event: 20 in NM, 106 in BM1
abbrev pub of_event : List ℕ → ℕ → List (Bool × ℕ)
of_event b n = of_block b ++ (leb (pick (nm b) 20 106) n, 22) ∷ (hidden DirectEvents (d1 b) (d2 b), 23) ∷ []

-- of an entry of the IFFT block: not NM, or descriptor 1 bit 0 clear or bit 2 set, or byte 5 none of three spin counters, or byte 6 above the most
abbrev pub of_ifft : List ℕ → ℕ → ℕ → ℕ → List (Bool × ℕ)
of_ifft b n from most =
    let spin = get_or b 5 0 in
    of_block b
    ++ (
      not (nm b)
          || not (bit (d1 b) 0)
          || bit (d1 b) 2
          || not (eqb spin from || eqb spin (from + 2) || eqb spin (from + 4))
          || ltb most (get_or b 6 0),
      24,
    )
    ∷ (leb (get_or b 6 0) n, 22)
    ∷ []

-- a setting of more bits than 01 reads
abbrev pub wide : Command → Bool
wide (Relay on off) = ltb 1 on || ltb 1 off
wide (Iel clock enable) = ltb 1 clock || ltb 1 enable
wide (HeadMask mask) = ltb 7 mask
wide (Target x target) = ltb 15 target
wide (Limit x limit) = ltb 15 limit
wide (Mode low) = ltb 255 low
wide (Stepping x low) = ltb 255 low
wide (Multiplexers byte bit) = ltb 255 byte || ltb 1 bit
wide (DirectionWindow start stop) = ltb 31 start || ltb 31 stop
wide (EnergyWindow start stop) = ltb 31 start || ltb 31 stop

-- the words of a command: a single is one; a block its head, two data words and its end
abbrev pub need : Command → ℕ
need (Relay on off) = 1
need (Iel clock enable) = 1
need (HeadMask mask) = 1
need (Target x target) = 1
need (Limit x limit) = 1
need (Mode low) = 1
need (Stepping x low) = 1
need (Multiplexers byte bit) = 4
need (DirectionWindow start stop) = 4
need (EnergyWindow start stop) = 4

-- of a command to be written: a setting too wide; too few words of room
abbrev pub of_write : Command → List ℕ → List (Bool × ℕ)
of_write c out = (wide c, 25) ∷ (ltb (length out) (need c), 26) ∷ []

-- the number that the writer and the reader tell, and 0 if they refuse nothing
abbrev pub write_number : Wrote → ℕ
write_number (Ok n) = 0
write_number (Err why) = number_of why

abbrev pub read_number : Meant → ℕ
read_number (Ok c) = 0
read_number (Err why) = number_of why
