-- What a reader may count on of the command table (01, "Command words"; 02 (iv)): its numbers, its lists of codes, the bits that each command reads.
-- The record is proved in proofs/Table.antt. Assumes nothing.
use Rattle.std.specs.Prelude.{ℕ, ◌/◌, ◌%◌, ◌^◌, ◌<◌, ◌≡◌, Bool, true, List, [], ◌∷◌, eqb, Err}
use Rattle.std.specs.Int.Bits.{bit_and}
use Rattle.base.specs.Pick.{pick}
use Rattle.supply.specs.declared.Refusal.{Refusal as SupplyRefusal}
use Rattle.supply.specs.Rules as supply
use Rattle.judge.specs.declared.Which.{Which}
use Rattle.judge.specs.declared.Which.TheVariants.{Stop, Start, Deflection}
use Rattle.judge.specs.declared.Core.{Core}
use Rattle.judge.specs.declared.Refusal.{Refusal}
use Rattle.judge.specs.declared.Refusal.TheVariants.{RelayOff, Disabled, OverLimit, StrayWord, RelayBits, WrongCheck, Unsettled, OutOfRange, WrongCount, UnknownCode}
use Rattle.judge.specs.Refusals.{number_of, raised}
use Rattle.judge.specs.Commands.{relay_cmd, iel_cmd, mask_cmd, target_cmd, limit_cmd, mode_cmd, stepping_cmd, single_of, mux_cmd, direction_cmd, energy_cmd, block_of}

-- singles and blocks have separate code lists
abbrev pub singles : List ℕ
singles = 0x08 ∷ 0x0C ∷ 0x20 ∷ 0x21 ∷ 0x22 ∷ 0x23 ∷ 0x24 ∷ 0x26 ∷ 0x28 ∷ 0x29 ∷ 0x2B ∷ 0x2C ∷ 0x2D ∷ []

abbrev pub blocks : List ℕ
blocks = 0x20 ∷ 0x23 ∷ 0x24 ∷ []

-- of each supply, the single that sets its target, its limit, its stepping (G chapter 3)
abbrev pub target_code : Which → ℕ
target_code Stop = 0x28
target_code Start = 0x20
target_code Deflection = 0x23

abbrev pub limit_code : Which → ℕ
limit_code Stop = 0x29
limit_code Start = 0x21
limit_code Deflection = 0x24

abbrev pub stepping_code : Which → ℕ
stepping_code Stop = 0x2D
stepping_code Start = 0x2C
stepping_code Deflection = 0x22

abbrev pub NoneOf : List ℕ → ℕ → Type 0
NoneOf [] code = Unit
NoneOf (k ∷ ks) code = (code ≡ k → ⊥) × NoneOf ks code

-- The bits that the table names: of a single's low byte,
abbrev pub named_bits : ℕ → ℕ
named_bits code =
    pick (eqb code 0x08) 0x22 ( -- bit 1 on, bit 5 off
    pick (eqb code 0x0C) 0x03 ( -- bit 0 IEL clock, bit 1 IEL enable
    pick (eqb code 0x20) 0x0F ( -- bits 3-0 new target
    pick (eqb code 0x21) 0x0F ( -- bits 3-0 new limit
    pick (eqb code 0x22) 0xFF ( -- 0, 1 or other: the whole byte
    pick (eqb code 0x23) 0x0F ( -- bits 3-0 new target
    pick (eqb code 0x24) 0x0F ( -- bits 3-0 new limit
    pick (eqb code 0x26) 0x07 ( -- bits 2-0 head mask
    pick (eqb code 0x28) 0x0F ( -- bits 3-0 new target
    pick (eqb code 0x29) 0x0F ( -- bits 3-0 new limit
    pick (eqb code 0x2B) 0xFF ( -- 0, 1 or other: the whole byte
    pick (eqb code 0x2C) 0xFF ( -- 0, 1 or other: the whole byte
    pick (eqb code 0x2D) 0xFF ( -- 0, 1 or other: the whole byte
    0x00)))))))))))))

-- and of a block's two bytes.
abbrev pub named_bits2 : ℕ → ℕ × ℕ
named_bits2 code =
    pick (eqb code 0x20) (0xFF, 0x01) ( -- byte 1, then bit 0 of byte 2
    pick (eqb code 0x23) (0x1F, 0x1F) ( -- start, stop: bits 4-0 of each
    pick (eqb code 0x24) (0x1F, 0x1F) ( -- likewise
    (0x00, 0x00))))

-- two bytes have the same bits under a mask
abbrev pub Agree : ℕ → ℕ → ℕ → Type 0
Agree mask a b = bit_and a mask ≡ bit_and b mask

-- bit k of a mask is set
abbrev pub has : ℕ → ℕ → Bool
has mask k = eqb (mask / 2 ^ k % 2) 1

pub record TableLaws : Type 0 where
  -- the number of each; 07h is never given, and 03h is no word's own (it is a dropped block's)
  pub numbers : (number_of RelayOff ≡ 0x04) × (number_of Disabled ≡ 0x05) × (number_of OverLimit ≡ 0x06)
      × (number_of StrayWord ≡ 0x0B) × (number_of RelayBits ≡ 0x0B) × (number_of WrongCheck ≡ 0x0B)
      × (number_of Unsettled ≡ 0x0C) × (number_of OutOfRange ≡ 0x0D) × (number_of WrongCount ≡ 0x0E) × (number_of UnknownCode ≡ 0x0F)
  pub never07 : (r : Refusal) → number_of r ≡ 0x07 → ⊥
  pub never03 : (r : Refusal) → number_of r ≡ 0x03 → ⊥
  -- a supply's refusal keeps its number
  pub kept : (r : SupplyRefusal) → number_of (raised r) ≡ supply.number_of r
  -- each listed single is judged by its own row, and an unknown single is 0Fh
  pub relay : (c : Core) (low : ℕ) → single_of c 0x08 low ≡ relay_cmd c low
  pub iel : (c : Core) (low : ℕ) → single_of c 0x0C low ≡ iel_cmd c low
  pub mask : (c : Core) (low : ℕ) → single_of c 0x26 low ≡ mask_cmd c low
  pub target : (x : Which) (c : Core) (low : ℕ) → single_of c (target_code x) low ≡ target_cmd x c low
  pub limit : (x : Which) (c : Core) (low : ℕ) → single_of c (limit_code x) low ≡ limit_cmd x c low
  pub mode : (c : Core) (low : ℕ) → single_of c 0x2B low ≡ mode_cmd c low
  pub stepping : (x : Which) (c : Core) (low : ℕ) → single_of c (stepping_code x) low ≡ stepping_cmd x c low
  pub unknown : (c : Core) (code low : ℕ) → NoneOf singles code → single_of c code low ≡ Err UnknownCode
  -- each listed block is judged by its own row, and an unknown one is 0Fh, whatever its n
  pub mux : (c : Core) (n x y : ℕ) → block_of c 0x20 n x y ≡ mux_cmd c n x y
  pub direction : (c : Core) (n x y : ℕ) → block_of c 0x23 n x y ≡ direction_cmd c n x y
  pub energy : (c : Core) (n x y : ℕ) → block_of c 0x24 n x y ≡ energy_cmd c n x y
  pub unknown2 : (c : Core) (code n x y : ℕ) → NoneOf blocks code → block_of c code n x y ≡ Err UnknownCode
  -- bits not named are ignored: bytes that agree on the named bits get the same verdict
  pub ignored : (c : Core) (code a b : ℕ) → a < 0x100 → b < 0x100 → Agree (named_bits code) a b → single_of c code a ≡ single_of c code b
  pub ignored2 : (c : Core) (code n a x b y : ℕ) → a < 0x100 → x < 0x100 → b < 0x100 → y < 0x100
      → Agree (named_bits2 code).0 a b → Agree (named_bits2 code).1 x y → block_of c code n a x ≡ block_of c code n b y
  -- bits named are read: each by itself makes another verdict than no bit, at some core
  pub read : (code k : ℕ) → code < 64 → k < 8 → has (named_bits code) k ≡ true → (c : Core) × (single_of c code 0 ≡ single_of c code (2 ^ k) → ⊥)
  pub read_first : (code k : ℕ) → code < 64 → k < 8 → has (named_bits2 code).0 k ≡ true → (c : Core) × (block_of c code 2 0 0 ≡ block_of c code 2 (2 ^ k) 0 → ⊥)
  pub read_second : (code k : ℕ) → code < 64 → k < 8 → has (named_bits2 code).1 k ≡ true → (c : Core) × (block_of c code 2 0 0 ≡ block_of c code 2 0 (2 ^ k) → ⊥)
