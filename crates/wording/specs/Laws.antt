-- What the class relies on (02 (i)): what is written reaches the judgement of its settings; written and read give each other back; when each refusal comes.
-- The records are proved in proofs/Sent.antt and proofs/Laws.antt. Assumes nothing.
use Rattle.std.specs.Prelude.{ℕ, ◌+◌, ◌*◌, ◌-◌, ◌^◌, ◌≤◌, ◌<◌, ◌≡◌, true, ◌⊎◌, List, [], ◌∷◌, ◌++◌, length, drop, replicate, Ok, Err}
use Rattle.crc.specs.Crc.{crc_of}
use Rattle.judge.specs.Table.{singles, blocks, target_code, limit_code, stepping_code}
use Rattle.rig.specs.declared.Rig.{Rig}
use Rattle.rig.specs.declared.Answer.TheVariants.{Waiting}
use Rattle.rig.specs.declared.Reply.{Reply}
use Rattle.rig.specs.declared.Reply.TheVariants.{Plain}
use Rattle.rig.specs.declared.Taken.{Taken}
use Rattle.rig.specs.Records.{with_pending, with_check}
use Rattle.rig.specs.Words.{nothing_pending, settled_of}
use Rattle.wording.specs.declared.Command.{Command}
use Rattle.wording.specs.declared.Command.TheVariants.{Relay, Iel, HeadMask, Target, Limit, Mode, Stepping, Multiplexers, DirectionWindow, EnergyWindow}
use Rattle.wording.specs.declared.Refusal.{Refusal}
use Rattle.wording.specs.declared.Refusal.TheVariants.{TooWide, NoRoom, NotOne}
use Rattle.wording.specs.Written.{settings, fits, words_of, wrote_of, written_of}
use Rattle.wording.specs.Meaning.{read_of, cleaned}
use Rattle.wording.specs.Judged.{judged_of}

-- Words sent one by one: what is replied to each, and the rig then.
abbrev pub replies_to : (Rig → ℕ → Taken) → Rig → List ℕ → List Reply
replies_to take r [] = []
replies_to take r (w ∷ ws) = (take r w).reply ∷ replies_to take (take r w).rig ws

abbrev pub rig_after : (Rig → ℕ → Taken) → Rig → List ℕ → Rig
rig_after take r [] = r
rig_after take r (w ∷ ws) = rig_after take (take r w).rig ws

-- The rig in which the settings are judged: that of a single as it was; at the end of a block nothing is pending, and the last check is the block's.
abbrev pub closed_with : Rig → ℕ → ℕ → Rig
closed_with r first second = with_check (with_pending r nothing_pending) (crc_of (first ∷ second ∷ []))

abbrev pub judged_in : Rig → Command → Rig
judged_in r (Relay on off) = r
judged_in r (Iel clock enable) = r
judged_in r (HeadMask mask) = r
judged_in r (Target x target) = r
judged_in r (Limit x limit) = r
judged_in r (Mode low) = r
judged_in r (Stepping x low) = r
judged_in r (Multiplexers byte bit) = closed_with r byte bit
judged_in r (DirectionWindow start stop) = closed_with r start stop
judged_in r (EnergyWindow start stop) = closed_with r start stop

-- The high byte of the first word: a refusal is booked under it.
abbrev pub head_byte : Command → ℕ
head_byte (Relay on off) = 0x08
head_byte (Iel clock enable) = 0x0C
head_byte (HeadMask mask) = 0x26
head_byte (Target x target) = target_code x
head_byte (Limit x limit) = limit_code x
head_byte (Mode low) = 0x2B
head_byte (Stepping x low) = stepping_code x
head_byte (Multiplexers byte bit) = 0x60
head_byte (DirectionWindow start stop) = 0x63
head_byte (EnergyWindow start stop) = 0x64

-- what the settings come to: 01's judgement of them, carried out
abbrev pub reached : Rig → Command → Taken
reached r c = settled_of (judged_in r c) (head_byte c) (judged_of r.core c)

-- What is written, sent to a rig with nothing pending: every word but the last waits, and the last reaches what the settings come to.
abbrev pub Sends : (Rig → ℕ → Taken) → Type 0
Sends take =
    (r : Rig) (c : Command) → r.pending ≡ nothing_pending → fits c ≡ true
    → (replies_to take r (words_of c) ≡ replicate (length (words_of c) - 1) (Plain Waiting) ++ ((reached r c).reply ∷ []))
    × (rig_after take r (words_of c) ≡ (reached r c).rig)

-- A command of 01, from its first paragraph on command words: a word is its kind in the top two bits, its code in the next six, its low byte.
abbrev pub word : ℕ → ℕ → ℕ → ℕ
word kind code low = kind * 0x4000 + code * 0x100 + low

abbrev pub OneOf : List ℕ → ℕ → Type 0
OneOf [] code = ⊥
OneOf (k ∷ ks) code = (code ≡ k) ⊎ OneOf ks code

-- one single: a listed code, any low byte
pub data OneSingle : List ℕ → Type 0 where
  alone : (code low : ℕ) → OneOf singles code → low < 0x100 → OneSingle (word 0 code low ∷ [])

-- one block: a listed code, a head with the count 2, two data words and an end with the check over their bytes, all of that code
pub data OneBlock : List ℕ → Type 0 where
  whole : (code first second : ℕ) → OneOf blocks code → first < 0x100 → second < 0x100
      → OneBlock (word 1 code 2 ∷ word 2 code first ∷ word 2 code second ∷ word 3 code (crc_of (first ∷ second ∷ [])) ∷ [])

-- a setting of so many bits that has more
abbrev pub Wide : List (ℕ × ℕ) → Type 0
Wide [] = ⊥
Wide (s ∷ ss) = (2 ^ s.1 ≤ s.0) ⊎ Wide ss

pub record WordingLaws : Type 0 where
  -- reading what is written gives the command back
  pub back : (c : Command) → fits c ≡ true → read_of (words_of c) ≡ Ok c
  -- writing what was read gives the same words with ignored bits 0 and the check to match; and what is read can be written
  pub again : (ws : List ℕ) (c : Command) → read_of ws ≡ Ok c → (words_of c ≡ cleaned ws) × (fits c ≡ true)
  -- 38 exactly if the words are not one single and not one block; the reader gives no other number
  pub not_one : (ws : List ℕ) → read_of ws ≡ Err NotOne → (OneSingle ws → ⊥) × (OneBlock ws → ⊥)
  pub is_none : (ws : List ℕ) → (OneSingle ws → ⊥) → (OneBlock ws → ⊥) → read_of ws ≡ Err NotOne
  pub no_other : (ws : List ℕ) (why : Refusal) → read_of ws ≡ Err why → why ≡ NotOne
  -- 25 exactly if a setting is too wide, then 26 exactly if there is less room than words; both leave the buffer
  pub wide : (c : Command) (out : List ℕ) → Wide (settings c) → (wrote_of c (length out) ≡ Err TooWide) × (written_of c out ≡ out)
  pub room : (c : Command) (out : List ℕ) → (Wide (settings c) → ⊥) → length out < length (words_of c)
      → (wrote_of c (length out) ≡ Err NoRoom) × (written_of c out ≡ out)
  -- otherwise the words stand at the front, and those behind them stay
  pub written : (c : Command) (out : List ℕ) → (Wide (settings c) → ⊥) → length (words_of c) ≤ length out
      → (wrote_of c (length out) ≡ Ok (length (words_of c))) × (written_of c out ≡ words_of c ++ drop (length (words_of c)) out)
