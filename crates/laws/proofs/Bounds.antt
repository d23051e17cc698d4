-- What a word keeps: the bounds of the core and of the pending block (by the cases of a word), and the ledger's account of the faults (by the reply).
-- Assumes nothing.
use Rattle.std.specs.Prelude.{Ok, Err, Option, Some, None}
use Prim.Native.Nat.{ℕ, ◌+◌, ◌/◌, ◌%◌, ◌<◌, ◌≤◌}
use mathlib.Core.Path.{◌≡◌, refl, subst}
use mathlib.Core.Bool.{Bool, true}
use mathlib.Core.List.{[], ◌∷◌}
use native.Mathlib.Nat.{add-zero}
use native.Mathlib.Omega.{arith}
use lib.Dec.{eqb}
use lib.ListN.{length}
use Rattle.crc.specs.Crc.{crc_byte, crc_from}
use Rattle.crc.proofs.Laws.{laws}
use Rattle.judge.specs.Refusals.{number_of}
use Rattle.rig.specs.declared.Faults.{Faults}
use Rattle.rig.specs.declared.Pending.{Pending}
use Rattle.rig.specs.declared.Rig.{Rig}
use Rattle.rig.specs.declared.Answer.TheVariants.{Accepted, Waiting, Refused}
use Rattle.rig.specs.declared.Reply.{Reply}
use Rattle.rig.specs.declared.Reply.TheVariants.{Plain, Swallowed, Dropped}
use Rattle.rig.specs.declared.Taken.{Taken}
use Rattle.rig.specs.Words.{new_block, one_more, settled_of, refused_of}
use Rattle.rig.specs.Replies.{refusals_of}
use Rattle.laws.specs.Results.{named, booked}
use Rattle.laws.specs.Replies.{booked_drop, After}
use Rattle.laws.specs.Runs.{codes, one_of, PendingBounds, latest_error, latest_code}
use Rattle.laws.proofs.Tests.{by_test}
use Rattle.laws.proofs.Commands.{CoreFits}
use Rattle.laws.proofs.Words.{Fresh, judged, begun, Case, idle, kept, closed, swallowed, again}
use Rattle.laws.proofs.Replies.{number_is}

-- the check goes on as a byte
check_small : (c b : ℕ) → c < 0x100 → b < 0x100 → crc_byte c b < 0x100
check_small c b h k = unfold crc_from in laws.fits c (b ∷ []) h (k, tt)

-- a pending block within its bounds; where none is, there is nothing to bound
abbrev pub PendingFits : Option Pending → Type 0
PendingFits None = Unit {0}
PendingFits (Some p) = PendingBounds p

new_fits : (high n : ℕ) → high < 0x100 → n ≤ 79 → PendingBounds (new_block high n)
new_fits high n h k = record { n = k; got = omega arith; head = h; first = omega arith; second = omega arith; so_far = omega arith }

more_fits : (p : Pending) (low : ℕ) → p.got < p.n → low < 0x100 → PendingBounds p → PendingBounds (one_more p low)
more_fits p low k l h =
    record {
      n = h.n;
      got = omega arith;
      head = h.head;
      first = by_test (◌< 0x100) (eqb p.got 0) (λ e. l) (λ e. h.first);
      second = by_test (◌< 0x100) (eqb p.got 1) (λ e. l) (λ e. h.second);
      so_far = check_small p.check low h.so_far l;
    }

-- of the block that is pending
pub fits_some : {o : Option Pending} {p : Pending} → o ≡ Some p → PendingFits o → PendingBounds p
fits_some e h = subst PendingFits e h

abbrev pub Fits : Rig → Type 0
Fits r = CoreFits r.core × PendingFits r.pending

fresh_fits : {r : Rig} {high low : ℕ} {t : Taken} → Fresh r high low t → high < 0x100 → Fits r → Fits t.rig
unfolding settled_of refused_of
fresh_fits (judged (Ok c) k) a h = (k.0 h.0, h.1)
fresh_fits (judged (Err why) k) a h = h
fresh_fits {high = high} {low = low} (begun k) a h = (h.0, new_fits high low a k)

pub word_fits : {r : Rig} {high low : ℕ} {b : Bool} {t : Taken} → Case r high low b t → high < 0x100 → low < 0x100 → Fits r → Fits t.rig
unfolding settled_of refused_of
word_fits (idle e j f) a l h = fresh_fits f a h
word_fits {low = low} (kept p e k) a l h = (h.0, more_fits p low k l (fits_some e h.1))
word_fits (closed p e (Ok c) k) a l h = (k.0 (h.0, (fits_some e h.1).first), tt)
word_fits (closed p e (Err why) k) a l h = (h.0, tt)
word_fits (swallowed p e) a l h = (h.0, tt)
word_fits (again p e j f) a l h = fresh_fits f a (h.0, tt)

-- The faults f after n refusals, of which the latest had that number and byte.
pub record Told (f : Faults) (n number byte : ℕ) : Type 0 where
  pub count : f.count ≡ n % 256
  pub error : f.error ≡ number
  pub last : f.last ≡ byte
  pub small : f.error ≤ 15
  pub known : one_of codes f.error ≡ true
  pub fits : f.last < 0x100

book : {f : Faults} {n e l : ℕ} (high number : ℕ) → Told f n e l → high < 0x100 → number ≤ 15 → one_of codes number ≡ true → Told (booked f high number) (n + 1) number high
book high number h a b k = record { count = omega arith; error = refl; last = refl; small = b; known = k; fits = a }

-- a dropped block is booked under its head's byte, which is what it is named by
dropped_told : (r q : Rig) (p : Pending) (w n e l : ℕ) → r.pending ≡ Some p → q.faults ≡ booked_drop r p → PendingFits r.pending → Told r.faults n e l
    → Told q.faults (n + 1) 0x03 (named r.pending (w / 256))
dropped_told r q p w n e l m f a h = rw (f, m) (book p.head 0x03 h (fits_some m a).head (omega arith) refl)

named_fits : (o : Option Pending) (own : ℕ) → PendingFits o → own < 0x100 → named o own < 0x100
named_fits None own a b = b
named_fits (Some p) own a b = a.head

pub told : (r q : Rig) (w : ℕ) (y : Reply) (n e l : ℕ) → After r w q y → PendingFits r.pending → w / 256 < 0x100 → Told r.faults n e l
    → Told q.faults (n + length (refusals_of y)) (latest_error e y) (latest_code l (named r.pending (w / 256)) (w / 256) y)
told r q w (Plain Accepted) n e l m a b h = rw (m.0, add-zero n) h
told r q w (Plain Waiting) n e l m a b h = rw (m.1, add-zero n) h
told r q w (Plain (Refused why)) n e l m a b h =
    rw m.1 (book (named r.pending (w / 256)) (number_of why) h (named_fits r.pending (w / 256) a b) (number_is why).0 (number_is why).2)
told r q w Swallowed n e l m a b h = dropped_told r q m.0 w n e l m.1 m.3 a h
told r q w (Dropped Accepted) n e l m a b h = dropped_told r q m.0 w n e l m.1 m.2 a h
told r q w (Dropped Waiting) n e l m a b h = dropped_told r q m.0 w n e l m.1 m.3 a h
told r q w (Dropped (Refused why)) n e l m a b h =
    let p = m.0 in
    let two : n + 1 + 1 ≡ n + 2 = omega arith in
    rw m.3 (rw two at (book (w / 256) (number_of why) (book p.head 0x03 h (fits_some m.1 a).head (omega arith) refl) b (number_is why).0 (number_is why).2))
