-- The command table, row by row, as a reader checks it: each row lists its verdicts with the exact ground of each, in the order of the refusals.
-- Keeps 01 "Command words": its table, and the paragraphs on words with nothing pending and on pending blocks; 02 (iv): the rows of stop are those of
-- each supply, with codes of its own. Assumes nothing.
use Rattle.std.specs.Prelude.{◌≡◌, Bool, true, false, ◌⊎◌, ℕ, ◌+◌, ◌*◌, ◌/◌, ◌%◌, ◌<◌, ◌≤◌, eqb, Ok, Err, Some, None}
use Rattle.supply.specs.declared.Supply.{Supply}
use Rattle.supply.specs.Shapes.{Change}
use Rattle.supply.specs.declared.Refusal.TheVariants as supply
use Rattle.supply.specs.When.{RelayWhen, relay_set, TargetWhen, LimitWhen, StepWhen}
use Rattle.judge.specs.declared.Which.{Which}
use Rattle.judge.specs.declared.Core.{Core}
use Rattle.judge.specs.declared.Sensor.{Sensor}
use Rattle.judge.specs.Shapes.{Verdict}
use Rattle.judge.specs.declared.Refusal.TheVariants.{StrayWord, RelayBits, WrongCheck, OutOfRange, WrongCount, UnknownCode}
use Rattle.judge.specs.Records.{supply_at, with_settings, with_parallel, with_mask, with_iel, with_sensor, with_mux, with_direction, with_energy}
use Rattle.judge.specs.Table.{target_code, limit_code, stepping_code}
use Rattle.rig.specs.declared.Pending.{Pending}
use Rattle.rig.specs.declared.Rig.{Rig}
use Rattle.rig.specs.declared.Taken.{Taken}
use Rattle.laws.specs.Results.{opened, grown, closed_rig, refused, waiting, swallowed, outcome, supplied}
use Rattle.laws.specs.Replies.{ReplyLaws}

-- Singles with nothing pending. The word is its code and its low byte: the high byte's top two bits are 0.
abbrev pub single : ℕ → ℕ → ℕ
single code low = code * 256 + low

-- no block is pending
abbrev pub Idle : Rig → Type 0
Idle r = r.pending ≡ None

-- the block p is pending; and the word is of its code
abbrev pub Waits : Rig → Pending → Type 0
Waits r p = r.pending ≡ Some p

abbrev pub SameCode : Pending → ℕ → Type 0
SameCode p w = w / 256 % 64 ≡ p.head % 64

-- exactly one x is as P says, and of that one Q is true
pub record ExactlyOne {A : Type 0} (P Q : A → Type 0) : Type 0 where
  pub one : A
  pub is : P one
  pub alone : (x : A) → P x → x ≡ one
  pub then : Q one

-- a row whose ground is the supply x: 28h, 29h, 2Dh for stop. What a supply answers, and when, is said by its own tables; it alone moves.
abbrev pub SupplyRow : (Rig → ℕ → Taken) → ℕ → Which → (Supply → ℕ → Change → Type 0) → Type 0
SupplyRow take code x when =
    (r : Rig) (low : ℕ) → low < 256 → Idle r
    → ExactlyOne (when (supply_at r.core x) low) (λ ch. take r (single code low) ≡ supplied r code x ch)

-- a row of the core: 08h, 0Ch, 26h, 2Bh
abbrev pub CoreRow : (Rig → ℕ → Taken) → ℕ → (Core → ℕ → Verdict → Type 0) → Type 0
CoreRow take code when =
    (r : Rig) (low : ℕ) → low < 256 → Idle r → ExactlyOne (when r.core low) (λ v. take r (single code low) ≡ outcome r code v)

-- the relay is common: all three supplies are switched, each as its table says
abbrev pub relays_set : Core → Bool → Core
relays_set c on =
    record { stop = relay_set c.stop on; start = relay_set c.start on; deflection = relay_set c.deflection on; settings = c.settings }

-- single 08h: whether on, off or neither hangs on the low byte alone
pub data SwitchWhen (c : Core) (low : ℕ) : Verdict → Type 0 where
  on : RelayWhen low (Ok true) → SwitchWhen c low (Ok (relays_set c true))
  off : RelayWhen low (Ok false) → SwitchWhen c low (Ok (relays_set c false))
  bits : RelayWhen low (Err supply.RelayBits) → SwitchWhen c low (Err RelayBits)

-- single 0Ch: bit 0 IEL clock, bit 1 IEL enable; nothing else moves
abbrev pub IelWhen : Core → ℕ → Verdict → Type 0
IelWhen c low v = v ≡ Ok (with_settings c (with_iel c.settings (record { clock = eqb (low % 2) 1; enable = eqb (low / 2 % 2) 1 })))

-- single 26h: bits 2-0 head mask; nothing else moves
abbrev pub MaskWhen : Core → ℕ → Verdict → Type 0
MaskWhen c low v = v ≡ Ok (with_settings c (with_mask c.settings (low % 8)))

-- single 2Bh: the whole low byte counts
pub data ModeWhen (c : Core) (low : ℕ) : Verdict → Type 0 where
  serial : low ≡ 0 → ModeWhen c low (Ok (with_settings c (with_parallel c.settings false)))
  parallel : low ≡ 1 → ModeWhen c low (Ok (with_settings c (with_parallel c.settings true)))
  other : 1 < low → ModeWhen c low (Err OutOfRange)

-- a code of no row
pub record Unlisted (code : ℕ) : Type 0 where
  pub not08 : code ≡ 0x08 → ⊥
  pub not_0c : code ≡ 0x0C → ⊥
  pub not20 : code ≡ 0x20 → ⊥
  pub not21 : code ≡ 0x21 → ⊥
  pub not22 : code ≡ 0x22 → ⊥
  pub not23 : code ≡ 0x23 → ⊥
  pub not24 : code ≡ 0x24 → ⊥
  pub not26 : code ≡ 0x26 → ⊥
  pub not28 : code ≡ 0x28 → ⊥
  pub not29 : code ≡ 0x29 → ⊥
  pub not_2b : code ≡ 0x2B → ⊥
  pub not_2c : code ≡ 0x2C → ⊥
  pub not_2d : code ≡ 0x2D → ⊥

-- the core with other multiplexer word or windows, and nothing else moved
abbrev pub sensing : Core → Sensor → Core
sensing c x = with_settings c (with_sensor c.settings x)

-- block 20h: byte 1, then bit 0 of byte 2; blocks 23h and 24h: start, stop, bits 4-0 of each
abbrev pub multiplexer_by : Core → ℕ → ℕ → Core
multiplexer_by c x y = sensing c (with_mux c.settings.sensor (record { byte = x; bit = eqb (y % 2) 1 }))

abbrev pub direction_by : Core → ℕ → ℕ → Core
direction_by c x y = sensing c (with_direction c.settings.sensor (record { start = x % 32; stop = y % 32 }))

abbrev pub energy_by : Core → ℕ → ℕ → Core
energy_by c x y = sensing c (with_energy c.settings.sensor (record { start = x % 32; stop = y % 32 }))

-- A closed block of that code, with n data words of which the first two are x and y, whose check was computed and received: 0Bh, 0Fh, 0Eh in this
-- order, then apply.
pub data ClosedWhen (c : Core) (code n x y computed received : ℕ) : Verdict → Type 0 where
  wrong_check : (received ≡ computed → ⊥) → ClosedWhen c code n x y computed received (Err WrongCheck)
  unknown : received ≡ computed → (code ≡ 0x20 → ⊥) → (code ≡ 0x23 → ⊥) → (code ≡ 0x24 → ⊥) → ClosedWhen c code n x y computed received (Err UnknownCode)
  wrong_count_20 : received ≡ computed → code ≡ 0x20 → (n ≡ 2 → ⊥) → ClosedWhen c code n x y computed received (Err WrongCount)
  wrong_count_23 : received ≡ computed → code ≡ 0x23 → (n ≡ 2 → ⊥) → ClosedWhen c code n x y computed received (Err WrongCount)
  wrong_count_24 : received ≡ computed → code ≡ 0x24 → (n ≡ 2 → ⊥) → ClosedWhen c code n x y computed received (Err WrongCount)
  multiplexer : received ≡ computed → code ≡ 0x20 → n ≡ 2 → ClosedWhen c code n x y computed received (Ok (multiplexer_by c x y))
  direction : received ≡ computed → code ≡ 0x23 → n ≡ 2 → ClosedWhen c code n x y computed received (Ok (direction_by c x y))
  energy : received ≡ computed → code ≡ 0x24 → n ≡ 2 → ClosedWhen c code n x y computed received (Ok (energy_by c x y))

-- the pending block, closed by an end word with this low byte
abbrev pub PendingWhen : Core → Pending → ℕ → Verdict → Type 0
PendingWhen c p received = ClosedWhen c (p.head % 64) p.n p.first p.second p.check received

-- The table and the two paragraphs before it, of any function that takes words.
pub record RowLaws (take : Rig → ℕ → Taken) : Type 0 where
  -- nothing pending: a single is judged by its row
  pub relay08 : CoreRow take 0x08 SwitchWhen
  pub iel_0c : CoreRow take 0x0C IelWhen
  pub mask26 : CoreRow take 0x26 MaskWhen
  pub mode_2b : CoreRow take 0x2B ModeWhen
  -- and so is a single to each supply: 28h, 29h, 2Dh stop; 20h, 21h, 2Ch start; 23h, 24h, 22h deflection
  pub target : (x : Which) → SupplyRow take (target_code x) x TargetWhen
  pub limit : (x : Which) → SupplyRow take (limit_code x) x LimitWhen
  pub stepping : (x : Which) → SupplyRow take (stepping_code x) x StepWhen
  -- an unknown single is 0Fh
  pub unknown : (r : Rig) (code low : ℕ) → code < 64 → low < 256 → Idle r → Unlisted code → take r (single code low) ≡ refused r code UnknownCode
  -- a head with n over 79 is refused 0Eh, otherwise the block waits, n = 0 too
  pub long : (r : Rig) (w : ℕ) → Idle r → w / 0x4000 ≡ 1 → 79 < w % 256 → take r w ≡ refused r (w / 256) WrongCount
  pub waits : (r : Rig) (w : ℕ) → Idle r → w / 0x4000 ≡ 1 → w % 256 ≤ 79 → take r w ≡ waiting r (opened (w / 256) (w % 256))
  -- a data or end word is refused 0Bh
  pub stray_data : (r : Rig) (w : ℕ) → Idle r → w / 0x4000 ≡ 2 → take r w ≡ refused r (w / 256) StrayWord
  pub stray_end : (r : Rig) (w : ℕ) → Idle r → 3 ≤ w / 0x4000 → take r w ≡ refused r (w / 256) StrayWord
  -- block pending: a data word of the same code, with room left, is kept
  pub kept : (r : Rig) (w : ℕ) (p : Pending) → Waits r p → w / 0x4000 ≡ 2 → SameCode p w → p.got < p.n → take r w ≡ waiting r (grown p (w % 256))
  -- an end word of the same code after exactly n data words closes it, and the block is judged; the last check is the computed one, right or wrong
  pub closed : (r : Rig) (w : ℕ) (p : Pending) → Waits r p → 3 ≤ w / 0x4000 → SameCode p w → p.got ≡ p.n
      → ExactlyOne (PendingWhen r.core p (w % 256)) (λ v. take r w ≡ outcome (closed_rig r p.check) p.head v)
  -- each other data or end word is swallowed with the block it drops
  pub swallowed_data : (r : Rig) (w : ℕ) (p : Pending) → Waits r p → w / 0x4000 ≡ 2 → (SameCode p w → ⊥) ⊎ (p.n ≤ p.got)
      → take r w ≡ swallowed r p.head
  pub swallowed_end : (r : Rig) (w : ℕ) (p : Pending) → Waits r p → 3 ≤ w / 0x4000 → (SameCode p w → ⊥) ⊎ (p.got ≡ p.n → ⊥)
      → take r w ≡ swallowed r p.head

-- These laws and those of the replies leave a word one answer and one rig: two functions that keep them agree at every rig and every word.
abbrev pub OneTake : Type 0
OneTake =
    (take other : Rig → ℕ → Taken) → RowLaws take → ReplyLaws take → RowLaws other → ReplyLaws other
    → (r : Rig) (w : ℕ) → take r w ≡ other r w
