-- What a word may move, by the reply that it gets: for every rig and every word, also rigs that no run reaches.
-- Keeps 01 "Command words", its last paragraph: what a refusal sets, and that nothing else moves. Assumes nothing.
use Rattle.std.specs.Prelude.{◌≡◌, Bool, false, ◌&&◌, List, [], ◌∷◌, ℕ, ◌/◌, ◌%◌, ◌<◌, eqb, leb, Option, Some, None}
use Rattle.base.specs.Pick.{pick}
use Rattle.judge.specs.Refusals.{number_of}
use Rattle.rig.specs.declared.Faults.{Faults}
use Rattle.rig.specs.declared.Pending.{Pending}
use Rattle.rig.specs.declared.Rig.{Rig}
use Rattle.rig.specs.declared.Answer.TheVariants.{Accepted, Waiting, Refused}
use Rattle.rig.specs.declared.Reply.{Reply}
use Rattle.rig.specs.declared.Reply.TheVariants.{Plain, Swallowed, Dropped}
use Rattle.rig.specs.declared.Taken.{Taken}
use Rattle.rig.specs.Replies.{refusals_of}
use Rattle.laws.specs.Results.{none, opened, continued, named, check_in, booked, dropped_rig}

-- 03h, booked under the dropped head's byte
abbrev pub booked_drop : Rig → Pending → Faults
booked_drop r p = booked r.faults p.head 0x03

-- what no word ever moves
pub record Apart (r q : Rig) : Type 0 where
  pub panel : q.panel ≡ r.panel
  pub sending : q.sending ≡ r.sending
  pub edbs : q.edbs ≡ r.edbs
  pub register : q.register ≡ r.register

-- a block that was pending is ended, and where none was, none is
abbrev pub Ended : Rig → Rig → Type 0
Ended r q = q.pending ≡ none

-- what a refusal leaves: the core as it was, and no block
pub record Unmoved (r q : Rig) : Type 0 where
  pub core : q.core ≡ r.core
  pub pending : Ended r q

-- the rig q after the word w, sent to the rig r, got this reply
abbrev pub After : Rig → ℕ → Rig → Reply → Type 0
-- accepted: the faults stand, the error code too, and no block is pending
After r w q (Plain Accepted) = (q.faults ≡ r.faults) × Ended r q
-- waiting: only the pending block moves: a head's new empty block, or one byte more
After r w q (Plain Waiting) =
    (q.core ≡ r.core) × (q.faults ≡ r.faults)
    × (q.pending ≡ Some (continued r.pending w))
-- refused: booked once, under the word's own high byte, or the head's where the word closed a block
After r w q (Plain (Refused why)) =
    Unmoved r q × (q.faults ≡ booked r.faults (named r.pending (w / 256)) (number_of why))
-- swallowed: a block was pending; 03h
After r w q Swallowed = (p : Pending) × (r.pending ≡ Some p) × Unmoved r q × (q.faults ≡ booked_drop r p)
-- dropped, then judged afresh: a block was pending; 03h, and what the second answer moves
After r w q (Dropped Accepted) = (p : Pending) × (r.pending ≡ Some p) × (q.faults ≡ booked_drop r p) × Ended r q
After r w q (Dropped Waiting) =
    (p : Pending) × (r.pending ≡ Some p) × (q.core ≡ r.core) × (q.faults ≡ booked_drop r p) × (q.pending ≡ Some (opened (w / 256) (w % 256)))
After r w q (Dropped (Refused why)) =
    (p : Pending) × (r.pending ≡ Some p) × Unmoved r q × (q.faults ≡ booked (booked_drop r p) (w / 256) (number_of why))

-- does the word close the pending block: an end word of its code, after exactly n data words?
abbrev pub closing_of : Option Pending → ℕ → Bool
closing_of None w = false
closing_of (Some p) w = leb 3 (w / 0x4000) && (eqb (w / 256 % 64) (p.head % 64) && eqb p.got p.n)

abbrev pub closing : Rig → ℕ → Bool
closing r w = closing_of r.pending w

-- the same answer, told after a drop
abbrev pub afterwards : Reply → Reply
afterwards (Plain a) = Dropped a
afterwards Swallowed = Swallowed
afterwards (Dropped a) = Dropped a

-- no number of a list is n
abbrev pub Never : ℕ → List ℕ → Type 0
Never n [] = Unit {0}
Never n (x ∷ xs) = (x ≡ n → ⊥) × Never n xs

-- What a word may move, by the reply it gets, of any function that takes words.
pub record ReplyLaws (take : Rig → ℕ → Taken) : Type 0 where
  -- what the reply's kind lets move has moved, and nothing else
  pub moves : (r : Rig) (w : ℕ) → After r w (take r w).rig (take r w).reply
  pub apart : (r : Rig) (w : ℕ) → Apart r (take r w).rig
  -- the last check is set when a block closes, right or wrong, and never otherwise
  pub check : (r : Rig) (w : ℕ) → (take r w).rig.check ≡ pick (closing r w) (check_in r.pending) r.check
  -- a single or head that meets a pending block: 03h is booked, and then the word does what it does with nothing pending
  pub afresh : (r : Rig) (w : ℕ) (p : Pending) → r.pending ≡ Some p → w / 0x4000 < 2
      → let q = dropped_rig r p.head in take r w ≡ record { rig = (take q w).rig; reply = afterwards (take q w).reply }
  -- 07h is never given
  pub never07 : (r : Rig) (w : ℕ) → Never 0x07 (refusals_of (take r w).reply)
