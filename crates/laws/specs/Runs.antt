-- Runs of a rig from the start: any words, spins, settings, power cuts and frames, in any order and number; and what every run keeps.
-- Keeps 01 "Command words" (counts and codes), "Spins and power", the widths of "The 40-byte frame"; 02 (ii), the register; 02 (iv). Assumes nothing.
use Rattle.std.specs.Prelude.{◌≡◌, Bool, true, false, ◌&&◌, ◌||◌, List, [], ◌∷◌, ◌++◌, ℕ, ◌+◌, ◌/◌, ◌%◌, ◌<◌, ◌≤◌, eqb, leb, ltb, length, get_or, Option, Some, is_some}
use Rattle.base.specs.Pick.{pick}
use Rattle.base.specs.Counts.{spin_more}
use Rattle.crc.specs.Crc.{crc_of}
use Rattle.frame.specs.Items.{held_at}
use Rattle.frame.specs.Read.{rem_of, is_plain}
use Rattle.judge.specs.declared.Which.{Which}
use Rattle.judge.specs.declared.Sensor.{Sensor}
use Rattle.judge.specs.Refusals.{number_of}
use Rattle.judge.specs.Records.{supply_at}
use Rattle.supply.specs.declared.Supply.{Supply}
use Rattle.supply.specs.Laws.{Quiet, SpinMoves}
use Rattle.power.specs.declared.PanelSetting.{PanelSetting}
use Rattle.power.specs.declared.PanelSetting.TheVariants.{Bias, Ground, FreeTime, Flap1, Flap2, Flap3}
use Rattle.rig.specs.declared.Rig.{Rig}
use Rattle.rig.specs.declared.Answer.TheVariants.{Accepted, Waiting, Refused}
use Rattle.rig.specs.declared.Reply.{Reply}
use Rattle.rig.specs.declared.Reply.TheVariants.{Plain, Swallowed, Dropped}
use Rattle.rig.specs.declared.Taken.{Taken}
use Rattle.rig.specs.declared.Panel.{Panel}
use Rattle.rig.specs.declared.Pending.{Pending}
use Rattle.rig.specs.Records.{with_bias, with_ground, with_free, with_flap1, with_flap2, with_flap3}
use Rattle.rig.specs.Words.{take_of}
use Rattle.rig.specs.Replies.{refusals_of}
use Rattle.rig.specs.Start.{start_rig}
use Rattle.power.specs.Power.{spun_of, cut_of, set_of}
use Rattle.sending.specs.Sending.{held_of, sent}
use Rattle.laws.specs.Results.{none}
use Rattle.laws.specs.Blocks.{holding}
use Rattle.laws.specs.Ordered.{Order, order_code, pair_of, asked_by, is_accepted}

-- a setting is a byte, a 16-bit number or a switch
abbrev pub FitsPanel : PanelSetting → Type 0
FitsPanel (Bias b) = b < 0x100
FitsPanel (Ground b) = b < 0x100
FitsPanel (FreeTime t) = t < 0x10000
FitsPanel (Flap1 b) = Unit {0}
FitsPanel (Flap2 b) = Unit {0}
FitsPanel (Flap3 b) = Unit {0}

-- what can happen to a rig: a word of 16 bits, a spin, a setting, a power cut, a frame built
pub data Happening : Type 0 where
  word : (w : ℕ) → w < 0x10000 → Happening
  spin : Happening
  set : (s : PanelSetting) → FitsPanel s → Happening
  cut : Happening
  frame : Happening

-- the functions of a rig
pub record Machine : Type 0 where
  pub start : Rig
  pub take : Rig → ℕ → Taken
  pub spin : Rig → Rig
  pub set : Rig → PanelSetting → Rig
  pub cut : Rig → Rig
  pub sent : Rig → Rig

-- ours: the definitions that the functions of `rig`, `power` and `sending` are proved to meet
abbrev pub ours : Machine
ours = record { start = start_rig; take = take_of; spin = spun_of; set = set_of; cut = cut_of; sent = sent }

-- what each happening does to the rig
abbrev pub happened : Machine → Rig → Happening → Rig
happened m r (word w h) = (m.take r w).rig
happened m r spin = m.spin r
happened m r (set s h) = m.set r s
happened m r cut = m.cut r
happened m r frame = m.sent r

-- happenings in order, any number of them
unfoldable pub rig_after : Machine → Rig → List Happening → Rig
rig_after m r [] = r
rig_after m r (e ∷ es) = rig_after m (happened m r e) es

-- What the words sent have begun, told by the words alone: nothing, or a block with its head's byte, its n, and the low bytes of its data words in order.
pub data Begun : Type 0 where
  nothing : Begun
  block : ℕ → ℕ → List ℕ → Begun

-- a head with n up to 79 begins a block; no other word does
abbrev pub begun_by : ℕ → Begun
begun_by w = pick (eqb (w / 0x4000) 1 && leb (w % 256) 79) (block (w / 256) (w % 256) []) nothing

-- a data word of the block's code, with room left, is one more byte of it; any other word ends it, and may begin another
abbrev pub begun_after : Begun → ℕ → Begun
begun_after nothing w = begun_by w
begun_after (block h n s) w =
    pick (eqb (w / 0x4000) 2 && (eqb (w / 256 % 64) (h % 64) && ltb (length s) n)) (block h n (s ++ (w % 256 ∷ []))) (begun_by w)

-- an end word of the block's code after exactly n data words closes it
abbrev pub closed_by : Begun → ℕ → Bool
closed_by nothing w = false
closed_by (block h n s) w = leb 3 (w / 0x4000) && (eqb (w / 256 % 64) (h % 64) && eqb (length s) n)

-- the check of its bytes
abbrev pub check_of : Begun → ℕ
check_of nothing = 0x00
check_of (block h n s) = crc_of s

-- the byte that a refusal names: the head's for a pending or closed block, else the word's own
abbrev pub named_by : Begun → ℕ → ℕ
named_by nothing w = w / 256
named_by (block h n s) w = h

-- what the rig holds of it
abbrev pub held_as : Begun → Option Pending
held_as nothing = none
held_as (block h n s) = Some (holding h n s)

-- what is ordered after a word with this reply: where it closes a block that is accepted, and of that code, what the first two bytes order; else what was
abbrev pub ordered_by : Order → Begun → ℕ → Reply → ℕ × ℕ → ℕ × ℕ
ordered_by p nothing w reply old = old
ordered_by p (block h n s) w reply old =
    pick (closed_by (block h n s) w && (is_accepted reply && eqb (h % 64) (order_code p))) (asked_by p (get_or s 0 0) (get_or s 1 0)) old

-- What a run has given since the last power cut: how many refusals and how many spins; the number and the named high byte of the latest refusal;
-- the check of the latest block that was closed; what the words have begun; what was ordered of the sensor, and what of that the latest spin copied.
pub record Ledger : Type 0 where
  pub refusals : ℕ
  pub spins : ℕ
  pub error : ℕ
  pub last : ℕ
  pub check : ℕ
  pub begun : Begun
  pub ordered : Order → ℕ × ℕ
  pub register : Order → ℕ × ℕ

-- nothing given: 0, and FFh for the code
abbrev pub nothing_given : Ledger
nothing_given =
    record { refusals = 0; spins = 0; error = 0x00; last = 0xFF; check = 0x00; begun = nothing; ordered = λ p. (0, 0); register = λ p. (0, 0) }

-- the number of the latest refusal, after this reply; a dropped block is 03h
abbrev pub latest_error : ℕ → Reply → ℕ
latest_error old (Plain Accepted) = old
latest_error old (Plain Waiting) = old
latest_error old (Plain (Refused why)) = number_of why
latest_error old Swallowed = 0x03
latest_error old (Dropped Accepted) = 0x03
latest_error old (Dropped Waiting) = 0x03
latest_error old (Dropped (Refused why)) = number_of why

-- the byte that the latest refusal names, after this reply: `named`, or where the word was refused after it dropped a block, its own
abbrev pub latest_code : ℕ → ℕ → ℕ → Reply → ℕ
latest_code old named own (Plain Accepted) = old
latest_code old named own (Plain Waiting) = old
latest_code old named own (Plain (Refused why)) = named
latest_code old named own Swallowed = named
latest_code old named own (Dropped Accepted) = named
latest_code old named own (Dropped Waiting) = named
latest_code old named own (Dropped (Refused why)) = own

-- what a happening adds: each refusal a word gets is counted, each spin, which copies what was ordered; a power cut begins anew
abbrev pub entered : Machine → Rig → Happening → Ledger → Ledger
entered m r (word w h) l =
    let reply = (m.take r w).reply in
    record {
      refusals = l.refusals + length (refusals_of reply);
      spins = l.spins;
      error = latest_error l.error reply;
      last = latest_code l.last (named_by l.begun w) (w / 256) reply;
      check = pick (closed_by l.begun w) (check_of l.begun) l.check;
      begun = begun_after l.begun w;
      ordered = λ p. ordered_by p l.begun w reply (l.ordered p);
      register = l.register;
    }
entered m r spin l =
    record {
      refusals = l.refusals;
      spins = l.spins + 1;
      error = l.error;
      last = l.last;
      check = l.check;
      begun = l.begun;
      ordered = l.ordered;
      register = l.ordered;
    }
entered m r (set s h) l = l
entered m r cut l = nothing_given
entered m r frame l = l

-- the ledger of a run that begins at the rig r with the ledger l
unfoldable pub ledger : Machine → Rig → Ledger → List Happening → Ledger
ledger m r l [] = l
ledger m r l (e ∷ es) = ledger m (happened m r e) (entered m r e l) es

-- the rig at the end of a run from the start
abbrev pub rig_reached : Machine → List Happening → Rig
rig_reached m es = rig_after m m.start es

-- the ledger at the end of a run from the start
abbrev pub given : Machine → List Happening → Ledger
given m es = ledger m m.start nothing_given es

-- the error codes that there are: none yet, 03h to 06h, 0Bh to 0Fh
abbrev pub codes : List ℕ
codes = 0x00 ∷ 0x03 ∷ 0x04 ∷ 0x05 ∷ 0x06 ∷ 0x0B ∷ 0x0C ∷ 0x0D ∷ 0x0E ∷ 0x0F ∷ []

-- a number is one of those listed
abbrev pub one_of : List ℕ → ℕ → Bool
one_of [] n = false
one_of (x ∷ xs) n = eqb n x || one_of xs n

-- the bounds of a sensor's fields: a byte, and five bits
pub record SensorBounds (x : Sensor) : Type 0 where
  pub mux : x.mux.byte < 0x100
  pub direction_start : x.direction.start ≤ 31
  pub direction_stop : x.direction.stop ≤ 31
  pub energy_start : x.energy.start ≤ 31
  pub energy_stop : x.energy.stop ≤ 31

-- the bounds of a supply: target ≤ limit ≤ 15, level ≤ 15; nothing stands while the relay is off
pub record SupplyBounds (s : Supply) : Type 0 where
  pub target : s.target ≤ s.limit
  pub limit : s.limit ≤ 15
  pub level : s.level ≤ 15
  pub off : Quiet s

-- the bounds of a pending block
pub record PendingBounds (p : Pending) : Type 0 where
  pub n : p.n ≤ 79
  pub got : p.got ≤ p.n
  pub head : p.head < 0x100
  pub first : p.first < 0x100
  pub second : p.second < 0x100
  pub so_far : p.check < 0x100

-- the bounds of every field
pub record Bounds (r : Rig) : Type 0 where
  -- each supply; and the relay is common, so the three records agree on it
  pub supply : (x : Which) → SupplyBounds (supply_at r.core x)
  pub relays : (x y : Which) → (supply_at r.core x).relay ≡ (supply_at r.core y).relay
  -- the settings
  pub mask : r.core.settings.mask ≤ 7
  -- what was ordered of the sensor, and its register
  pub ordered : SensorBounds r.core.settings.sensor
  pub register : SensorBounds r.register
  -- the faults and the last check
  pub error : r.faults.error ≤ 15
  pub last : r.faults.last < 0x100
  pub count : r.faults.count < 0x100
  pub check : r.check < 0x100
  -- the pending block, where there is one; nothing pending is one value
  pub pending : (p : Pending) → r.pending ≡ Some p → PendingBounds p
  pub idle : is_some r.pending ≡ false → r.pending ≡ none
  -- the panel, the next frame, the counter
  pub bias : r.panel.bias < 0x100
  pub ground : r.panel.ground < 0x100
  pub free : r.panel.free < 0x10000
  pub next : r.sending.next ≤ 31
  pub latch : r.sending.latch < 0x100000000
  pub edbs : r.edbs.0 < 0x100000000

-- the rig q after a spin of the rig r: each supply's level goes one towards its target if relay and stepping are on, the register is what was ordered,
-- the counter adds one; nothing else moves
pub record Spun (r q : Rig) : Type 0 where
  pub supply : (x : Which) → SpinMoves (supply_at r.core x) (supply_at q.core x)
  pub register : q.register ≡ r.core.settings.sensor
  pub edbs : q.edbs ≡ spin_more r.edbs
  pub settings : q.core.settings ≡ r.core.settings
  pub faults : q.faults ≡ r.faults
  pub pending : q.pending ≡ r.pending
  pub check : q.check ≡ r.check
  pub panel : q.panel ≡ r.panel
  pub sending : q.sending ≡ r.sending

-- the panel after a setting: that part of it alone
abbrev pub panel_by : Panel → PanelSetting → Panel
panel_by p (Bias b) = with_bias p b
panel_by p (Ground b) = with_ground p b
panel_by p (FreeTime t) = with_free p t
panel_by p (Flap1 b) = with_flap1 p b
panel_by p (Flap2 b) = with_flap2 p b
panel_by p (Flap3 b) = with_flap3 p b

-- what neither a setting nor a frame moves
pub record Kept (r q : Rig) : Type 0 where
  pub core : q.core ≡ r.core
  pub register : q.register ≡ r.register
  pub faults : q.faults ≡ r.faults
  pub pending : q.pending ≡ r.pending
  pub check : q.check ≡ r.check
  pub edbs : q.edbs ≡ r.edbs

-- the rig q after a setting of the rig r: the panel moves, and nothing else
pub record SetMoves (r : Rig) (s : PanelSetting) (q : Rig) : Type 0 where
  pub panel : q.panel ≡ panel_by r.panel s
  pub sending : q.sending ≡ r.sending
  pub kept : Kept r q

-- the rig q once the rig r has built its next frame: the index goes on, modulo 32; the long EDB counter is latched at index 0 and the free time at 27;
-- nothing else moves
pub record SentMoves (r q : Rig) : Type 0 where
  pub next : q.sending.next ≡ (r.sending.next + 1) % 32
  pub latch : q.sending.latch
      ≡ pick (eqb (r.sending.next % 32) 0) r.edbs.0 (pick (eqb (r.sending.next % 32) 27) r.panel.free r.sending.latch)
  pub panel : q.panel ≡ r.panel
  pub kept : Kept r q

-- what every run keeps, of the functions of any rig
pub record RunLaws (m : Machine) : Type 0 where
  -- the invalid count is the number of refusals given since the last power cut, modulo 256
  pub count : (es : List Happening) → (rig_reached m es).faults.count ≡ (given m es).refusals % 256
  -- the long EDB counter is the number of spins since the last power cut, modulo 2^32
  pub counter : (es : List Happening) → (rig_reached m es).edbs.0 ≡ (given m es).spins % 0x100000000
  -- the error code and the last invalid code are those of the latest refusal since the last power cut; 0 and FFh if there was none
  pub error : (es : List Happening) → (rig_reached m es).faults.error ≡ (given m es).error
  pub last : (es : List Happening) → (rig_reached m es).faults.last ≡ (given m es).last
  -- the error code is one of those that there are
  pub errors : (es : List Happening) → one_of codes (rig_reached m es).faults.error ≡ true
  -- the last check is that of the data words sent in the latest block that was closed since the last power cut; 0 if there was none
  pub check : (es : List Happening) → (rig_reached m es).check ≡ (given m es).check
  -- the pending block is what the words sent have begun: its head, its n, and the bytes of its data words; or none
  pub holds : (es : List Happening) → (rig_reached m es).pending ≡ held_as (given m es).begun
  -- of the sensor is ordered what the latest accepted block of each code said since the last power cut, told by the words and the replies alone; the register
  -- is what was so ordered at the latest spin since then; 0 where there was none
  pub ordered : (es : List Happening) (p : Order) → pair_of p (rig_reached m es).core.settings.sensor ≡ (given m es).ordered p
  pub register : (es : List Happening) (p : Order) → pair_of p (rig_reached m es).register ≡ (given m es).register p
  -- every field keeps its bounds
  pub bounds : (es : List Happening) → Bounds (rig_reached m es)
  -- what a frame shows of each plain item fits the item's width, so that nothing is cut off
  pub widths : (es : List Happening) (k : ℕ) → is_plain k ≡ true → held_at (held_of (rig_reached m es)) k < rem_of k
  -- a setting and a frame move every rig so, and so does a spin; a power cut returns it to the start
  pub set : (r : Rig) (s : PanelSetting) → SetMoves r s (m.set r s)
  pub sent : (r : Rig) → SentMoves r (m.sent r)
  pub spin : (r : Rig) → Spun r (m.spin r)
  pub cut : (r : Rig) → m.cut r ≡ m.start
