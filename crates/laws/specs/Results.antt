-- What the answer to a word leaves of the rig, part by part. The laws are said with this and with arithmetic, and with none of the decoder's own
-- helpers but `withX`, a record with one part replaced: so the two are written apart. Keeps 01 "Command words". Assumes nothing.
-- A word w is of the kind w / 0x4000 (0 single, 1 head, 2 data, 3 end) and the code w / 256 % 64; its high byte is w / 256, its low byte w % 256.
use Rattle.std.specs.Prelude.{ℕ, ◌+◌, ◌/◌, ◌%◌, eqb, Ok, Err, Option, Some, None}
use Rattle.base.specs.Pick.{pick}
use Rattle.crc.specs.Crc.{crc_byte}
use Rattle.supply.specs.Shapes.{Change}
use Rattle.judge.specs.declared.Which.{Which}
use Rattle.judge.specs.declared.Core.{Core}
use Rattle.judge.specs.Shapes.{Verdict}
use Rattle.judge.specs.declared.Refusal.{Refusal}
use Rattle.judge.specs.Refusals.{number_of, raised}
use Rattle.judge.specs.Records.{with_supply}
use Rattle.rig.specs.declared.Faults.{Faults}
use Rattle.rig.specs.declared.Pending.{Pending}
use Rattle.rig.specs.declared.Rig.{Rig}
use Rattle.rig.specs.declared.Answer.TheVariants.{Accepted, Waiting, Refused}
use Rattle.rig.specs.declared.Reply.TheVariants.{Plain, Swallowed}
use Rattle.rig.specs.declared.Taken.{Taken}
use Rattle.rig.specs.Records.{with_core, with_faults, with_pending, with_check}

-- no block pending; a block that a head has begun, of which no data word has come; and one byte more of it: the first two are kept, the check goes on
abbrev pub none : Option Pending
none = None

abbrev pub opened : ℕ → ℕ → Pending
opened head n = record { head = head; n = n; got = 0; first = 0; second = 0; check = 0 }

abbrev pub grown : Pending → ℕ → Pending
grown p b =
    record {
      head = p.head;
      n = p.n;
      got = p.got + 1;
      first = pick (eqb p.got 0) b p.first;
      second = pick (eqb p.got 1) b p.second;
      check = crc_byte p.check b;
    }

-- the block that waits once the word w has: the one that w begins, or the one that was pending, with one byte more
abbrev pub continued : Option Pending → ℕ → Pending
continued None w = opened (w / 256) (w % 256)
continued (Some p) w = grown p (w % 256)

-- the high byte that a refusal is booked under: the word's own, or the head's where a block was pending
abbrev pub named : Option Pending → ℕ → ℕ
named None own = own
named (Some p) own = p.head

-- the check of a block so far; 0 where none is pending
abbrev pub check_in : Option Pending → ℕ
check_in None = 0
check_in (Some p) = p.check

-- a refusal of that number, booked under that high byte; the count goes from 255 to 0
abbrev pub booked : Faults → ℕ → ℕ → Faults
booked f high number = record { error = number; last = high; count = (f.count + 1) % 256 }

-- the rig in which the block p is pending, and nothing else has moved
abbrev pub blocked : Rig → Pending → Rig
blocked r p = with_pending r (Some p)

-- the rig whose block was closed: nothing is pending, the last check is k
abbrev pub closed_rig : Rig → ℕ → Rig
closed_rig r k = with_check (with_pending r none) k

-- the rig whose block was dropped: nothing is pending, and 03h is booked under the head's byte
abbrev pub dropped_rig : Rig → ℕ → Rig
dropped_rig r head = with_faults (with_pending r none) (booked r.faults head 0x03)

-- accepted: the core is c, and nothing else has moved
abbrev pub accepted : Rig → Core → Taken
accepted r c = record { rig = with_core r c; reply = Plain Accepted }

-- refused: booked under that high byte, and nothing else has moved
abbrev pub refused : Rig → ℕ → Refusal → Taken
refused r high why = record { rig = with_faults r (booked r.faults high (number_of why)); reply = Plain (Refused why) }

-- the word waits, with the block p
abbrev pub waiting : Rig → Pending → Taken
waiting r p = record { rig = blocked r p; reply = Plain Waiting }

-- the word goes with the block that it drops
abbrev pub swallowed : Rig → ℕ → Taken
swallowed r head = record { rig = dropped_rig r head; reply = Swallowed }

-- by a verdict, and by what the supply x answers
abbrev pub outcome : Rig → ℕ → Verdict → Taken
outcome r high (Ok c) = accepted r c
outcome r high (Err why) = refused r high why

abbrev pub supplied : Rig → ℕ → Which → Change → Taken
supplied r high x (Ok s) = accepted r (with_supply r.core x s)
supplied r high x (Err why) = refused r high (raised why)
