-- What one word does to the rig (01, "Command words"), in 01's order.
-- Assumes nothing.
use Rattle.std.specs.Prelude.{ℕ, ◌+◌, ◌/◌, ◌%◌, Bool, ◌&&◌, eqb, ltb, Ok, Err, Option, Some, None}
use Rattle.base.specs.Pick.{pick}
use Rattle.crc.specs.Crc.{crc_byte}
use Rattle.crc.specs.Judged.{judge_of}
use Rattle.crc.specs.declared.Judged.{Judged}
use Rattle.crc.specs.declared.Judged.TheVariants.{Right, Wrong}
use Rattle.judge.specs.declared.Core.{Core}
use Rattle.judge.specs.Shapes.{Verdict}
use Rattle.judge.specs.declared.Refusal.TheVariants.{StrayWord, WrongCheck, WrongCount}
use Rattle.judge.specs.Refusals.{number_of}
use Rattle.judge.specs.Commands.{single_of, block_of}
use Rattle.rig.specs.declared.Kind.{Kind}
use Rattle.rig.specs.declared.Kind.TheVariants.{Single, Head, Data, End}
use Rattle.rig.specs.declared.Pending.{Pending}
use Rattle.rig.specs.declared.Rig.{Rig}
use Rattle.rig.specs.declared.Answer.TheVariants.{Accepted, Waiting, Refused}
use Rattle.rig.specs.declared.Reply.{Reply}
use Rattle.rig.specs.declared.Reply.TheVariants.{Plain, Swallowed, Dropped}
use Rattle.rig.specs.declared.Taken.{Taken}
use Rattle.rig.specs.Records.{with_core, with_faults, with_pending, with_check}

-- A word is 16 bits: a high byte and a low byte. The high byte's top two bits are its kind, the other six the code.
abbrev pub high_of : ℕ → ℕ
high_of word = word / 256

abbrev pub low_of : ℕ → ℕ
low_of word = word % 256

unfoldable pub kind_of : ℕ → Kind
kind_of high = pick (eqb (high / 64) 0) Single (pick (eqb (high / 64) 1) Head (pick (eqb (high / 64) 2) Data End))

abbrev pub code_of : ℕ → ℕ
code_of high = high % 64

-- nothing pending is one value; a head begins a block of n data words, none of which has come
abbrev pub nothing_pending : Option Pending
nothing_pending = None

abbrev pub new_block : ℕ → ℕ → Pending
new_block high n = record { head = high; n = n; got = 0; first = 0; second = 0; check = 0 }

-- the block with one more data word's low byte: the first two are kept, and the check goes on over it. That this is the check of the list of all
-- that came is a law (laws/specs/Blocks).
abbrev pub one_more : Pending → ℕ → Pending
one_more p low =
    record {
      head = p.head;
      n = p.n;
      got = p.got + 1;
      first = pick (eqb p.got 0) low p.first;
      second = pick (eqb p.got 1) low p.second;
      check = crc_byte p.check low;
    }

-- A refusal sets the error code and the last invalid code, and adds one to the invalid count, which goes from 255 to 0.
unfoldable pub refused_of : Rig → ℕ → ℕ → Rig
refused_of r high number = with_faults r (record { error = number; last = high; count = (r.faults.count + 1) % 256 })

-- A verdict carried out. Acceptance leaves the error code standing; a refusal moves nothing else.
unfoldable pub settled_of : Rig → ℕ → Verdict → Taken
settled_of r high (Ok c) = record { rig = with_core r c; reply = Plain Accepted }
settled_of r high (Err why) = record { rig = refused_of r high (number_of why); reply = Plain (Refused why) }

-- A head with n over 79 is refused 0Eh, otherwise the block waits (n = 0 too).
unfoldable pub head_of : Rig → ℕ → ℕ → Taken
head_of r high n = pick (ltb 79 n) (settled_of r high (Err WrongCount)) (record { rig = with_pending r (Some (new_block high n)); reply = Plain Waiting })

-- Nothing pending: a single is judged; a head as above; a data or end word is refused 0Bh.
unfoldable pub fresh_of : Rig → Kind → ℕ → ℕ → Taken
fresh_of r Single high low = settled_of r high (single_of r.core (code_of high) low)
fresh_of r Head high low = head_of r high low
fresh_of r Data high low = settled_of r high (Err StrayWord)
fresh_of r End high low = settled_of r high (Err StrayWord)

-- Block pending: a data word of the same code, with room left, is kept;
abbrev pub same_code : Pending → ℕ → Bool
same_code p high = eqb (code_of high) (code_of p.head)

abbrev pub keeps : Pending → ℕ → Bool
keeps p high = same_code p high && ltb p.got p.n

-- an end word of the same code after exactly n data words closes it.
abbrev pub closes : Pending → ℕ → Bool
closes p high = same_code p high && eqb p.got p.n

-- A closed block is judged in this order: check wrong 0Bh; then by its code and n. Closing sets the last check to the computed one, right or wrong;
-- the last invalid code is the head's.
unfoldable pub verdict_of : Judged → Core → Pending → Verdict
verdict_of Right c p = block_of c (code_of p.head) p.n p.first p.second
verdict_of Wrong c p = Err WrongCheck

unfoldable pub closed_of : Rig → Pending → ℕ → Taken
closed_of r p low =
    settled_of (with_check (with_pending r nothing_pending) p.check) p.head (verdict_of (judge_of p.check low) r.core p)

-- Each other word drops the block, refused 03h under the head's byte. A dropping data or end word is swallowed with it; a dropping single or head is
-- then judged afresh, so one word can give two answers.
abbrev pub dropped_reply : Reply → Reply
dropped_reply (Plain a) = Dropped a
dropped_reply Swallowed = Swallowed
dropped_reply (Dropped a) = Dropped a

abbrev pub after_drop : Taken → Taken
after_drop t = record { rig = t.rig; reply = dropped_reply t.reply }

abbrev pub drop_number : ℕ
drop_number = 0x03

abbrev pub drop_block : Rig → Pending → Rig
drop_block r p = refused_of (with_pending r nothing_pending) p.head drop_number

unfoldable pub dropped_of : Rig → Pending → Kind → ℕ → ℕ → Taken
dropped_of r p Single high low = after_drop (fresh_of (drop_block r p) Single high low)
dropped_of r p Head high low = after_drop (fresh_of (drop_block r p) Head high low)
dropped_of r p Data high low = record { rig = drop_block r p; reply = Swallowed }
dropped_of r p End high low = record { rig = drop_block r p; reply = Swallowed }

unfoldable pub pending_of : Rig → Pending → Kind → ℕ → ℕ → Taken
pending_of r p Data high low =
    pick (keeps p high) (record { rig = with_pending r (Some (one_more p low)); reply = Plain Waiting }) (dropped_of r p Data high low)
pending_of r p End high low = pick (closes p high) (closed_of r p low) (dropped_of r p End high low)
pending_of r p Single high low = dropped_of r p Single high low
pending_of r p Head high low = dropped_of r p Head high low

-- One word.
unfoldable pub take_with : Rig → Option Pending → Kind → ℕ → ℕ → Taken
take_with r None kind high low = fresh_of r kind high low
take_with r (Some p) kind high low = pending_of r p kind high low

unfoldable pub take_of : Rig → ℕ → Taken
take_of r word = take_with r r.pending (kind_of (high_of word)) (high_of word) (low_of word)
