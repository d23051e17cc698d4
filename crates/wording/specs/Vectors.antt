-- Words as 01 and the class have them, one for each command at least, as literals: names, codes and settings cannot trade places unseen.
-- Assumes nothing.
use Rattle.std.specs.Prelude.{◌≡◌, refl, [], ◌∷◌, Ok}
use Rattle.crc.specs.Crc.{shift, crc_from, crc_of}
use Rattle.judge.specs.declared.Which.TheVariants.{Stop, Start, Deflection}
use Rattle.wording.specs.declared.Command.TheVariants.{Relay, Iel, HeadMask, Target, Limit, Mode, Stepping, Multiplexers, DirectionWindow, EnergyWindow}
use Rattle.wording.specs.Written.{words_of}
use Rattle.wording.specs.Meaning.{single_meant, block_meant, is_block, read_of}

pub relay : (words_of (Relay 1 0) ≡ 0x0802 ∷ []) × (words_of (Relay 0 1) ≡ 0x0820 ∷ [])
relay = (refl, refl)

pub iel : (words_of (Iel 1 0) ≡ 0x0C01 ∷ []) × (words_of (Iel 0 1) ≡ 0x0C02 ∷ [])
iel = (refl, refl)

pub singles : (words_of (HeadMask 5) ≡ 0x2605 ∷ []) × (words_of (Mode 7) ≡ 0x2B07 ∷ [])
singles = (refl, refl)

-- the commands of each supply (G chapter 3)
pub stop : (words_of (Target Stop 5) ≡ 0x2805 ∷ []) × (words_of (Limit Stop 9) ≡ 0x2909 ∷ []) × (words_of (Stepping Stop 1) ≡ 0x2D01 ∷ [])
stop = (refl, refl, refl)

pub start : (words_of (Target Start 5) ≡ 0x2005 ∷ []) × (words_of (Limit Start 9) ≡ 0x2109 ∷ []) × (words_of (Stepping Start 1) ≡ 0x2C01 ∷ [])
start = (refl, refl, refl)

pub deflection : (words_of (Target Deflection 5) ≡ 0x2305 ∷ []) × (words_of (Limit Deflection 9) ≡ 0x2409 ∷ [])
    × (words_of (Stepping Deflection 1) ≡ 0x2201 ∷ [])
deflection = (refl, refl, refl)

-- the block of bench case c, and that of case a
pub direction : words_of (DirectionWindow 3 19) ≡ 0x6302 ∷ 0xA303 ∷ 0xA313 ∷ 0xE346 ∷ []
unfolding crc_of crc_from shift
direction = refl

pub energy : words_of (EnergyWindow 1 0) ≡ 0x6402 ∷ 0xA401 ∷ 0xA400 ∷ 0xE415 ∷ []
unfolding crc_of crc_from shift
energy = refl

pub multiplexers : words_of (Multiplexers 1 0) ≡ 0x6002 ∷ 0xA001 ∷ 0xA000 ∷ 0xE015 ∷ []
unfolding crc_of crc_from shift
multiplexers = refl

-- singles and blocks have separate codes (01): 20h, 23h and 24h are read as the one or the other by the kind of the words
pub single20 : (read_of (0x2005 ∷ []) ≡ Ok (Target Start 5)) × (read_of (0x6002 ∷ 0xA001 ∷ 0xA000 ∷ 0xE015 ∷ []) ≡ Ok (Multiplexers 1 0))
unfolding single_meant block_meant is_block crc_of crc_from shift
single20 = (refl, refl)

pub single23 : (read_of (0x2305 ∷ []) ≡ Ok (Target Deflection 5)) × (read_of (0x6302 ∷ 0xA303 ∷ 0xA313 ∷ 0xE346 ∷ []) ≡ Ok (DirectionWindow 3 19))
unfolding single_meant block_meant is_block crc_of crc_from shift
single23 = (refl, refl)

pub single24 : (read_of (0x2409 ∷ []) ≡ Ok (Limit Deflection 9)) × (read_of (0x6402 ∷ 0xA401 ∷ 0xA400 ∷ 0xE415 ∷ []) ≡ Ok (EnergyWindow 1 0))
unfolding single_meant block_meant is_block crc_of crc_from shift
single24 = (refl, refl)
