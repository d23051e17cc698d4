-- The pending block, followed word by word: what the decoder leaves of it is what the words have begun (specs/Runs, `Begun`).
-- Assumes nothing.
use Rattle.std.specs.Prelude.{Ok, Err, Option, Some}
use mathlib.Core.Path.{◌≡◌, refl, ap, sym, ◌∙◌}
use mathlib.Core.Bool.{Bool, true, false, ◌&&◌}
use mathlib.Core.List.{[], ◌∷◌, ◌++◌}
use Prim.Native.Nat.{ℕ, ◌/◌, ◌%◌}
use lib.Dec.{eqb, leb, ltb}
use borrow.Author.Tests.{ltb-true, ltb-false, le-leb, lt-leb}
use Rattle.base.specs.Pick.{pick}
use Rattle.base.proofs.Cases.{split}
use Rattle.crc.specs.Crc.{crc_from, crc_of}
use Rattle.judge.specs.Shapes.{Verdict}
use Rattle.rig.specs.declared.Kind.{Kind}
use Rattle.rig.specs.declared.Kind.TheVariants.{Single, Head, Data, End}
use Rattle.rig.specs.declared.Pending.{Pending}
use Rattle.rig.specs.declared.Rig.{Rig}
use Rattle.rig.specs.declared.Reply.{Reply}
use Rattle.rig.specs.declared.Taken.{Taken}
use Rattle.rig.specs.Words.{high_of, low_of, kind_of, keeps, closes, new_block, one_more, settled_of, refused_of, head_of, fresh_of, closed_of, after_drop, drop_block, dropped_of, pending_of, take_with, take_of}
use Rattle.laws.specs.Results.{none, named, check_in}
use Rattle.laws.specs.Ordered.{Order, is_of, asked_in, is_accepted}
use Rattle.laws.specs.Replies.{closing}
use Rattle.laws.specs.Blocks.{holding}
use Rattle.laws.specs.Runs.{Begun, nothing, block, begun_by, begun_after, closed_by, check_of, named_by, held_as, ordered_by}
use Rattle.laws.proofs.WordKinds.{is_head, is_data, head_test, data_test}
use Rattle.laws.proofs.Words.{takes}
use Rattle.laws.proofs.Blocks.{more}

abbrev pending_in : Taken → Option Pending
pending_in t = t.rig.pending

-- a head's new block, or none
abbrev opens : Kind → ℕ → ℕ → Option Pending → Option Pending
opens k high low old = pick (is_head k && leb low 79) (Some (new_block high low)) old

-- a verdict leaves the pending block alone
settled_pending : (r : Rig) (high : ℕ) (v : Verdict) → (settled_of r high v).rig.pending ≡ r.pending
unfolding settled_of refused_of
settled_pending r high (Ok c) = refl
settled_pending r high (Err why) = refl

-- with nothing pending, a head with n up to 79 begins a block
head_pending : (r : Rig) (high low : ℕ) → (head_of r high low).rig.pending ≡ pick (leb low 79) (Some (new_block high low)) r.pending
unfolding head_of
head_pending r high low =
    split (ltb 79 low)
    (λ e. rw (e, lt-leb low 79 (ltb-true _ _ e)) (settled_pending r high _))
    (λ e. rw (e, le-leb low 79 (ltb-false _ _ e)) refl)

fresh_pending : (r : Rig) (k : Kind) (high low : ℕ) → (fresh_of r k high low).rig.pending ≡ opens k high low r.pending
unfolding fresh_of
fresh_pending r Single high low = settled_pending r high _
fresh_pending r Head high low = head_pending r high low
fresh_pending r Data high low = settled_pending r high _
fresh_pending r End high low = settled_pending r high _

-- a block pending: a data word may be kept; else nothing is left of it, but a head may begin another
module _ (r : Rig) (p : Pending) where
  data_pending : (high low : ℕ) (b : Bool) → keeps p high ≡ b → (pending_of r p Data high low).rig.pending ≡ pick b (Some (one_more p low)) none
  unfolding pending_of dropped_of refused_of
  data_pending high low true e = rw e refl
  data_pending high low false e = rw e refl

  end_pending : (high low : ℕ) (b : Bool) → closes p high ≡ b → (pending_of r p End high low).rig.pending ≡ none
  unfolding pending_of dropped_of refused_of closed_of
  end_pending high low true e = rw e (settled_pending _ p.head _)
  end_pending high low false e = rw e refl

  afresh_pending : (k : Kind) (high low : ℕ) → pending_of r p k high low ≡ after_drop (fresh_of (drop_block r p) k high low)
      → (pending_of r p k high low).rig.pending ≡ opens k high low none
  unfolding refused_of
  afresh_pending k high low e = ap pending_in e ∙ fresh_pending (drop_block r p) k high low

  after_pending : (k : Kind) (high low : ℕ)
      → (pending_of r p k high low).rig.pending ≡ pick (is_data k && keeps p high) (Some (one_more p low)) (opens k high low none)
  unfolding pending_of dropped_of
  after_pending Single high low = afresh_pending Single high low refl
  after_pending Head high low = afresh_pending Head high low refl
  after_pending Data high low = data_pending high low (keeps p high) refl
  after_pending End high low = end_pending high low (closes p high) refl

-- what is begun, as it is held
held_begun : (c : Bool) (h n : ℕ) → pick c (Some (new_block h n)) none ≡ held_as (pick c (block h n []) nothing)
unfolding crc_of crc_from
held_begun true h n = refl
held_begun false h n = refl

held_more : (c : Bool) (b d : Begun) → pick c (held_as b) (held_as d) ≡ held_as (pick c b d)
held_more true b d = refl
held_more false b d = refl

-- what is left where the word is not kept
abbrev left : ℕ → Option Pending
left w = opens (kind_of (high_of w)) (high_of w) (low_of w) none

begins : (w : ℕ) → left w ≡ held_as (begun_by w)
begins w =
    ap (λ (b : Bool). pick (b && leb (low_of w) 79) (Some (new_block (high_of w) (low_of w))) none) (sym (head_test w))
    ∙ held_begun (eqb (w / 0x4000) 1 && leb (w % 256) 79) (high_of w) (low_of w)

pub begun_word : (r : Rig) (b : Begun) (w : ℕ) → r.pending ≡ held_as b → (take_of r w).rig.pending ≡ held_as (begun_after b w)
unfolding take_with
begun_word r nothing w e =
    let k = kind_of (high_of w) in
    ap pending_in (takes r w e refl)
    ∙ fresh_pending r k (high_of w) (low_of w)
    ∙ ap (opens k (high_of w) (low_of w)) e
    ∙ begins w
begun_word r (block h n s) w e =
    let k = kind_of (high_of w) in
    let p = holding h n s in
    let room = keeps p (high_of w) in
    let keep = eqb (w / 0x4000) 2 && room in
    let longer = holding h n (s ++ (low_of w ∷ [])) in
    ap pending_in (takes r w e refl)
    ∙ after_pending r p k (high_of w) (low_of w)
    ∙ ap (λ (x : Bool). pick (x && room) (Some (one_more p (low_of w))) (left w)) (sym (data_test w))
    ∙ ap (λ (q : Pending). pick keep (Some q) (left w)) (more h n s (low_of w))
    ∙ ap (λ (q : Option Pending). pick keep (Some longer) q) (begins w)
    ∙ held_more keep (block h n (s ++ (low_of w ∷ []))) (begun_by w)

-- whether the word closes it, its check, and the byte that a refusal names
pub closed_by_lem : (r : Rig) (b : Begun) (w : ℕ) → r.pending ≡ held_as b → closing r w ≡ closed_by b w
closed_by_lem r nothing w e = rw e refl
closed_by_lem r (block h n s) w e = rw e refl

pub check_of_lem : (r : Rig) (b : Begun) → r.pending ≡ held_as b → check_in r.pending ≡ check_of b
check_of_lem r nothing e = rw e refl
check_of_lem r (block h n s) e = rw e refl

pub named_by_lem : (r : Rig) (b : Begun) (w : ℕ) → r.pending ≡ held_as b → named r.pending (w / 256) ≡ named_by b w
named_by_lem r nothing w e = rw e refl
named_by_lem r (block h n s) w e = rw e refl

-- and what is then ordered
pub ordered_by_lem : (r : Rig) (b : Begun) (w : ℕ) (y : Reply) (p : Order) (old : ℕ × ℕ) → r.pending ≡ held_as b
    → pick (closing r w && (is_accepted y && is_of p r.pending)) (asked_in p r.pending) old ≡ ordered_by p b w y old
ordered_by_lem r nothing w y p old e = rw e refl
ordered_by_lem r (block h n s) w y p old e = rw e refl
