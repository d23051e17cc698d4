-- The bench cases a to l of 01, as one table; of 02 (ii) the spin before the frame in a and c.
-- Assumes nothing.
use Rattle.std.specs.Prelude.{◌≡◌, Bool, true, false, List, [], ◌∷◌, ◌++◌, ℕ, Float, ℤ, pos, negsuc, get_or, replicate}
use Rattle.std.specs.Float.{fin}
use Rattle.judge.specs.declared.Refusal.TheVariants.{RelayOff, Disabled, RelayBits, WrongCheck, WrongCount}
use Rattle.rig.specs.declared.Rig.{Rig}
use Rattle.rig.specs.declared.Answer.TheVariants.{Accepted, Waiting, Refused}
use Rattle.rig.specs.declared.Reply.{Reply}
use Rattle.rig.specs.declared.Reply.TheVariants.{Plain, Dropped}
use Rattle.rig.specs.Words.{take_of}
use Rattle.rig.specs.Replies.{refusals_of}
use Rattle.rig.specs.Start.{start_rig}
use Rattle.sending.specs.Sending.{next_frame}
use Rattle.volts.specs.declared.Sheet.{Sheet}
use Rattle.volts.specs.Volts.{bias_of, Shows}
use Rattle.event.specs.Ifft.{item_at}
use Rattle.laws.specs.Runs.{ours}
use Rattle.demands.specs.Held.{Do, send, spin, doing}

-- the rig after some steps (words, spins, settings) from the start
abbrev pub after_steps : List Do → Rig
after_steps ds = doing ours start_rig ds

-- what a case says
pub data Case : Type 0 where
  -- after the steps the last word gets this reply, which gives these refusals
  reply : List Do → ℕ → Reply → List ℕ → Case
  -- after the steps the byte of the next frame is this
  byte : List Do → ℕ → ℕ → Case
  -- after the steps the last check, the limit, the invalid count is this
  check : List Do → ℕ → Case
  limit : List Do → ℕ → Case
  count : List Do → ℕ → Case
  -- the bias byte is so many 256ths of a volt, and this is the float that the sheet shows
  volts : ℕ → ℤ → Float → Case
  -- a matrix item whose second word has these two bytes is good, or bad
  item : ℕ → ℕ → Bool → Case

-- when it is true, of the definitions that the functions are proved to meet
abbrev pub Holds : Case → Type 0
Holds (reply ds w r ns) = ((take_of (after_steps ds) w).reply ≡ r) × (refusals_of r ≡ ns)
Holds (byte ds k b) = get_or (next_frame (after_steps ds)) k 0 ≡ b
Holds (check ds k) = (after_steps ds).check ≡ k
Holds (limit ds n) = (after_steps ds).core.stop.limit ≡ n
Holds (count ds n) = (after_steps ds).faults.count ≡ n
Holds (volts d z x) = (bias_of d ≡ z) × ((g : ℕ) (s : Sheet) → Shows d g s → s.bias ≡ x)
Holds (item x y g) = (item_at (0 ∷ 0 ∷ x ∷ y ∷ []) 0).good ≡ g

-- the energy window of cases a and b, without its end word
abbrev pub block_a : List Do
block_a = send 0x6402 ∷ send 0xA401 ∷ send 0xA400 ∷ []

-- the direction window of case c, without its end word
abbrev pub block_c : List Do
block_c = send 0x6302 ∷ send 0xA303 ∷ send 0xA313 ∷ []

-- the table
abbrev pub cases : List Case
cases =
    -- a. 6402 A401 A400 E415: accepted; after a spin byte 10 is 01h
    reply block_a 0xE415 (Plain Accepted) []
    ∷ byte (block_a ++ (send 0xE415 ∷ spin ∷ [])) 10 0x01
    -- b. the same ending E407: 0Bh, last check 15h
    ∷ reply block_a 0xE407 (Plain (Refused WrongCheck)) (0x0B ∷ [])
    ∷ check (block_a ++ (send 0xE407 ∷ [])) 0x15
    -- c. 6302 A303 A313 E346: after a spin byte 8 is 09h, byte 9 8Ch
    ∷ byte (block_c ++ (send 0xE346 ∷ spin ∷ [])) 8 0x09
    ∷ byte (block_c ++ (send 0xE346 ∷ spin ∷ [])) 9 0x8C
    -- d. 0822: 0Bh
    ∷ reply [] 0x0822 (Plain (Refused RelayBits)) (0x0B ∷ [])
    -- e. 2805 at start: 04h
    ∷ reply [] 0x2805 (Plain (Refused RelayOff)) (0x04 ∷ [])
    -- f. relay on, 2805: 05h
    ∷ reply (send 0x0802 ∷ []) 0x2805 (Plain (Refused Disabled)) (0x05 ∷ [])
    -- g. 29FA at start: limit 10
    ∷ limit (send 0x29FA ∷ []) 10
    -- h. count 255, one refusal: 0
    ∷ count (replicate 255 (send 0x0822)) 255
    ∷ count (replicate 255 (send 0x0822) ++ (send 0x0822 ∷ [])) 0
    -- i. bias 00h: 138.5 V; FFh: -35179/256
    ∷ volts 0x00 (pos 35456) (fin false 277 (negsuc 0))  -- 277 × 2^-1
    ∷ volts 0xFF (negsuc 35178) (fin true 35179 (negsuc 7))  -- -35179 × 2^-8
    -- j. 6402 then 0802: 03h, then accepted
    ∷ reply (send 0x6402 ∷ []) 0x0802 (Dropped Accepted) (0x03 ∷ [])
    -- k. 4450: 0Eh; 444F waits
    ∷ reply [] 0x4450 (Plain (Refused WrongCount)) (0x0E ∷ [])
    ∷ reply [] 0x444F (Plain Waiting) []
    -- l. second word 8004h good, 8000h bad
    ∷ item 0x80 0x04 true
    ∷ item 0x80 0x00 false
    ∷ []

-- every case of the table holds
abbrev pub EveryCase : List Case → Type 0
EveryCase [] = Unit {0}
EveryCase (c ∷ cs) = Holds c × EveryCase cs

-- the bench cases of 01, together
abbrev pub AllCases : Type 0
AllCases = EveryCase cases
