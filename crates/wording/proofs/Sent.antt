-- What is written, sent to a rig with nothing pending, reaches the judgement of its settings (specs/Laws `Sends`).
-- Assumes nothing.
use Rattle.std.specs.Prelude.{Some}
use Rattle.std.proofs.lemmas.Bool.{and_parts}
use mathlib.Core.Path.{◌≡◌, refl, sym, ap, ◌∙◌}
use mathlib.Core.Bool.{Bool, true, false, ◌&&◌}
use mathlib.Core.List.{[], ◌∷◌}
use Prim.Native.Nat.{ℕ, zero, suc, ◌+◌, ◌*◌, ◌/◌, ◌%◌, ◌<◌}
use native.Mathlib.Omega.{arith}
use lib.Dec.{eqb, ltb}
use borrow.Author.Tests.{eq-eqb, ltb-true}
use Rattle.base.specs.Pick.{pick}
use Rattle.crc.specs.Crc.{crc_from, crc_of}
use Rattle.crc.proofs.Laws.{laws as crc-laws}
use Rattle.supply.specs.Rules.{relay_of, targeted, limited, switched}
use Rattle.supply.specs.Shapes.{Change}
use Rattle.judge.specs.declared.Which.{Which}
use Rattle.judge.specs.declared.Which.TheVariants.{Stop, Start, Deflection}
use Rattle.judge.specs.declared.Core.{Core}
use Rattle.judge.specs.Shapes.{Verdict}
use Rattle.judge.specs.Commands.{carried, mode_cmd, single_of, counted_of, block_of}
use Rattle.judge.specs.Table.{target_code, limit_code, stepping_code}
use Rattle.judge.proofs.Table.{laws as table}
use Rattle.rig.specs.declared.Rig.{Rig}
use Rattle.rig.specs.declared.Kind.TheVariants.{Single, Head, Data, End}
use Rattle.rig.specs.declared.Answer.TheVariants.{Waiting}
use Rattle.rig.specs.declared.Reply.TheVariants.{Plain}
use Rattle.rig.specs.declared.Taken.{Taken}
use Rattle.rig.specs.Records.{with_pending}
use Rattle.rig.specs.Words.{nothing_pending, high_of, low_of, kind_of, code_of, new_block, one_more, settled_of, head_of, fresh_of, verdict_of, closed_of, pending_of, take_with, take_of}
use Rattle.wording.specs.declared.Command.TheVariants.{Relay, Iel, HeadMask, Target, Limit, Mode, Stepping, Multiplexers, DirectionWindow, EnergyWindow}
use Rattle.wording.specs.Written.{single_word, head_word, data_word, end_word, block}
use Rattle.wording.specs.Judged.{judged_of}
use Rattle.wording.specs.Laws.{replies_to, rig_after, closed_with, Sends}

-- the words of a code below 64 with a byte, of each kind
module _ (code b : ℕ) (code64 : code < 64) (byte : b < 256) where
  single_high : high_of (single_word code b) ≡ code
  single_high = omega arith

  single_low : low_of (single_word code b) ≡ b
  single_low = omega arith

  head_high : high_of (head_word code b) ≡ 0x40 + code
  head_high = omega arith

  head_low : low_of (head_word code b) ≡ b
  head_low = omega arith

  data_high : high_of (data_word code b) ≡ 0x80 + code
  data_high = omega arith

  data_low : low_of (data_word code b) ≡ b
  data_low = omega arith

  end_high : high_of (end_word code b) ≡ 0xC0 + code
  end_high = omega arith

  end_low : low_of (end_word code b) ≡ b
  end_low = omega arith

-- the kind and the code that a high byte tells
module _ (code : ℕ) (code64 : code < 64) where
  single_kind : kind_of code ≡ Single
  unfolding kind_of
  single_kind = let k : code / 64 ≡ 0 = omega arith in rw k

  head_kind : kind_of (0x40 + code) ≡ Head
  unfolding kind_of
  head_kind = let k : (0x40 + code) / 64 ≡ 1 = omega arith in rw k

  data_kind : kind_of (0x80 + code) ≡ Data
  unfolding kind_of
  data_kind = let k : (0x80 + code) / 64 ≡ 2 = omega arith in rw k

  end_kind : kind_of (0xC0 + code) ≡ End
  unfolding kind_of
  end_kind = let k : (0xC0 + code) / 64 ≡ 3 = omega arith in rw k

  single_code : code_of code ≡ code
  single_code = omega arith

  head_code : code_of (0x40 + code) ≡ code
  head_code = omega arith

  data_code : code_of (0x80 + code) ≡ code
  data_code = omega arith

  end_code : code_of (0xC0 + code) ≡ code
  end_code = omega arith

-- a rig with nothing pending takes a single, and the head of a block of two
module _ (r : Rig) (idle : r.pending ≡ nothing_pending) (code : ℕ) (code64 : code < 64) where
  single_sent : (low : ℕ) → low < 256 → take_of r (single_word code low) ≡ settled_of r code (single_of r.core code low)
  unfolding take_of take_with fresh_of
  single_sent low h = rw (idle, single_high code low code64 h, single_low code low code64 h, single_kind code code64, single_code code code64)

  abbrev begun : Rig
  begun = with_pending r (Some (new_block (0x40 + code) 2))

  head_sent : take_of r (head_word code 2) ≡ record { rig = begun; reply = Plain Waiting }
  unfolding take_of take_with fresh_of head_of
  head_sent = rw (idle, head_high code 2 code64 (omega arith), head_low code 2 code64 (omega arith), head_kind code code64)

  abbrev one : ℕ → Rig
  one a = with_pending r (Some (one_more (new_block (0x40 + code) 2) a))

  abbrev two : ℕ → ℕ → Rig
  two a b = with_pending r (Some (one_more (one_more (new_block (0x40 + code) 2) a) b))

  same_code_lem : (high : ℕ) → code_of high ≡ code → eqb (code_of high) (code_of (0x40 + code)) ≡ true
  same_code_lem high e = eq-eqb (code_of high) (code_of (0x40 + code)) (e ∙ sym (head_code code code64))

  first_sent : (a : ℕ) → a < 256 → take_of begun (data_word code a) ≡ record { rig = one a; reply = Plain Waiting }
  unfolding take_of take_with pending_of
  first_sent a h =
      rw (data_high code a code64 h, data_low code a code64 h, data_kind code code64, same_code_lem (0x80 + code) (data_code code code64))

  second_sent : (a b : ℕ) → b < 256 → take_of (one a) (data_word code b) ≡ record { rig = two a b; reply = Plain Waiting }
  unfolding take_of take_with pending_of
  second_sent a b h =
      rw (data_high code b code64 h, data_low code b code64 h, data_kind code code64, same_code_lem (0x80 + code) (data_code code code64))

  end_sent : (a b k : ℕ) → k < 256 → k ≡ crc_of (a ∷ b ∷ [])
      → take_of (two a b) (end_word code k) ≡ settled_of (closed_with r a b) (0x40 + code) (block_of r.core code 2 a b)
  unfolding take_of take_with pending_of closed_of verdict_of crc_of crc_from
  end_sent a b k h e =
      rw (end_high code k code64 h, end_low code k code64 h, end_kind code code64, same_code_lem (0xC0 + code) (end_code code code64), eq-eqb k (crc_of (a ∷ b ∷ [])) e, head_code code code64)

-- what the supply x answers under a test is the verdict under that test
carried_pick : (c : Core) (x : Which) (b : Bool) (y z : Change) → carried c x (pick b y z) ≡ pick b (carried c x y) (carried c x z)
carried_pick c x true y z = refl
carried_pick c x false y z = refl

-- a supply's codes are of six bits
pub codes : (x : Which) → (target_code x < 64) × (limit_code x < 64) × (stepping_code x < 64)
codes Stop = (omega arith, omega arith, omega arith)
codes Start = (omega arith, omega arith, omega arith)
codes Deflection = (omega arith, omega arith, omega arith)

-- two settings of one bit each
pub two_bits : (P : ℕ → ℕ → Type 0) → P 0 0 → P 0 1 → P 1 0 → P 1 1 → (a b : ℕ) → a < 2 → b < 2 → P a b
two_bits P p q s t zero zero h k = p
two_bits P p q s t zero (suc zero) h k = q
two_bits P p q s t (suc zero) zero h k = s
two_bits P p q s t (suc zero) (suc zero) h k = t
two_bits P p q s t zero (suc (suc b)) h k = absurd (omega arith)
two_bits P p q s t (suc zero) (suc (suc b)) h k = absurd (omega arith)
two_bits P p q s t (suc (suc a)) b h k = absurd (omega arith)

-- the settings that fit come to the same as the low byte that they make
module _ (c : Core) where
  relay_judged_lem : (on off : ℕ) → on < 2 → off < 2 → single_of c 0x08 (on * 0x02 + off * 0x20) ≡ judged_of c (Relay on off)
  unfolding single_of relay_of
  relay_judged_lem = two_bits (λ on off. single_of c 0x08 (on * 0x02 + off * 0x20) ≡ judged_of c (Relay on off)) refl refl refl refl

  iel_judged : (clock enable : ℕ) → clock < 2 → enable < 2 → single_of c 0x0C (clock * 0x01 + enable * 0x02) ≡ judged_of c (Iel clock enable)
  unfolding single_of
  iel_judged = two_bits (λ clock enable. single_of c 0x0C (clock * 0x01 + enable * 0x02) ≡ judged_of c (Iel clock enable)) refl refl refl refl

  mask_judged : (mask : ℕ) → mask < 8 → single_of c 0x26 mask ≡ judged_of c (HeadMask mask)
  unfolding single_of
  mask_judged mask h = let e : mask % 8 ≡ mask = omega arith in rw e

  target_judged_lem : (x : Which) (target : ℕ) → target < 16 → single_of c (target_code x) target ≡ judged_of c (Target x target)
  unfolding targeted carried
  target_judged_lem x target h = let e : target % 16 ≡ target = omega arith in table.target x c target ∙ rw e (simp (carried_pick c x))

  limit_judged_lem : (x : Which) (limit : ℕ) → limit < 16 → single_of c (limit_code x) limit ≡ judged_of c (Limit x limit)
  unfolding limited carried
  limit_judged_lem x limit h = let e : limit % 16 ≡ limit = omega arith in table.limit x c limit ∙ rw e (simp (carried_pick c x))

  mode_judged : (low : ℕ) → single_of c 0x2B low ≡ judged_of c (Mode low)
  unfolding single_of mode_cmd
  mode_judged low = refl

  stepping_judged : (x : Which) (low : ℕ) → single_of c (stepping_code x) low ≡ judged_of c (Stepping x low)
  unfolding switched carried
  stepping_judged x low = table.stepping x c low ∙ simp (carried_pick c x)

  mux_judged : (byte bit : ℕ) → bit < 2 → block_of c 0x20 2 byte bit ≡ judged_of c (Multiplexers byte bit)
  unfolding block_of counted_of
  mux_judged byte bit h = let e : bit % 2 ≡ bit = omega arith in rw e

  direction_judged : (start stop : ℕ) → start < 32 → stop < 32 → block_of c 0x23 2 start stop ≡ judged_of c (DirectionWindow start stop)
  unfolding block_of counted_of
  direction_judged start stop h k = let e : start % 32 ≡ start = omega arith in let f : stop % 32 ≡ stop = omega arith in rw (e, f)

  energy_judged : (start stop : ℕ) → start < 32 → stop < 32 → block_of c 0x24 2 start stop ≡ judged_of c (EnergyWindow start stop)
  unfolding block_of counted_of
  energy_judged start stop h k = let e : start % 32 ≡ start = omega arith in let f : stop % 32 ≡ stop = omega arith in rw (e, f)

-- a single that is judged as the settings are
sent_single : (r : Rig) (code low : ℕ) (v : Verdict) → r.pending ≡ nothing_pending → code < 64 → low < 256 → single_of r.core code low ≡ v
    → let done = settled_of r code v in
    (replies_to take_of r (single_word code low ∷ []) ≡ done.reply ∷ []) × (rig_after take_of r (single_word code low ∷ []) ≡ done.rig)
sent_single r code low v idle h l e =
    let t : take_of r (single_word code low) ≡ settled_of r code v = single_sent r idle code h low l ∙ ap (settled_of r code) e in
    (ap (λ (x : Taken). x.reply ∷ []) t, ap (λ (x : Taken). x.rig) t)

-- four words, of which three wait
abbrev waits : Rig → Taken
waits r = record { rig = r; reply = Plain Waiting }

four_sent : (take : Rig → ℕ → Taken) (r r1 r2 r3 : Rig) (done : Taken) (w x y z : ℕ)
    → take r w ≡ waits r1 → take r1 x ≡ waits r2 → take r2 y ≡ waits r3 → take r3 z ≡ done
    → (replies_to take r (w ∷ x ∷ y ∷ z ∷ []) ≡ Plain Waiting ∷ Plain Waiting ∷ Plain Waiting ∷ done.reply ∷ [])
    × (rig_after take r (w ∷ x ∷ y ∷ z ∷ []) ≡ done.rig)
four_sent take r r1 r2 r3 done w x y z e f g h = (
  rw (e, f, g, h),
  ap (λ (t : Taken). rig_after take t.rig (x ∷ y ∷ z ∷ [])) e
      ∙ ap (λ (t : Taken). rig_after take t.rig (y ∷ z ∷ [])) f
      ∙ ap (λ (t : Taken). rig_after take t.rig (z ∷ [])) g
      ∙ ap (λ (t : Taken). t.rig) h,
)

pub check_fits : (a b : ℕ) → a < 256 → b < 256 → crc_of (a ∷ b ∷ []) < 256
unfolding crc_of
check_fits a b la lb = crc-laws.fits 0 (a ∷ b ∷ []) (omega arith) (la, (lb, tt))

-- a block that is judged as the settings are
sent_block : (r : Rig) (code a b : ℕ) (v : Verdict) → r.pending ≡ nothing_pending → code < 64 → a < 256 → b < 256 → block_of r.core code 2 a b ≡ v
    → let done = settled_of (closed_with r a b) (0x40 + code) v in
    (replies_to take_of r (block code a b) ≡ Plain Waiting ∷ Plain Waiting ∷ Plain Waiting ∷ done.reply ∷ [])
    × (rig_after take_of r (block code a b) ≡ done.rig)
sent_block r code a b v idle h la lb e =
    let k = crc_of (a ∷ b ∷ []) in
    four_sent take_of r (begun r idle code h) (one r idle code h a) (two r idle code h a b) (settled_of (closed_with r a b) (0x40 + code) v)
    (head_word code 2) (data_word code a) (data_word code b) (end_word code k)
    (head_sent r idle code h) (first_sent r idle code h a la) (second_sent r idle code h a b lb)
    (end_sent r idle code h a b k (check_fits a b la lb) refl ∙ ap (settled_of (closed_with r a b) (0x40 + code)) e)

-- the settings of a command that fits are below their bounds
pub fits_one : (a n : ℕ) → (ltb a n && true) ≡ true → a < n
fits_one a n e = ltb-true a n (and_parts (ltb a n) true e).0

pub fits_two : (a m b n : ℕ) → (ltb a m && (ltb b n && true)) ≡ true → (a < m) × (b < n)
fits_two a m b n e = let h = and_parts (ltb a m) (ltb b n && true) e in (ltb-true a m h.0, fits_one b n h.1)

pub sends : Sends take_of
sends r (Relay on off) i f =
    let h = fits_two on 2 off 2 f in
    sent_single r 0x08 (on * 0x02 + off * 0x20) (judged_of r.core (Relay on off)) i (omega arith) (omega arith) (relay_judged_lem r.core on off h.0 h.1)
sends r (Iel clock enable) i f =
    let h = fits_two clock 2 enable 2 f in
    sent_single r 0x0C (clock * 0x01 + enable * 0x02) (judged_of r.core (Iel clock enable)) i (omega arith) (omega arith) (iel_judged r.core clock enable h.0 h.1)
sends r (HeadMask mask) i f =
    let h = fits_one mask 8 f in
    sent_single r 0x26 mask (judged_of r.core (HeadMask mask)) i (omega arith) (omega arith) (mask_judged r.core mask h)
sends r (Target x target) i f =
    let h = fits_one target 16 f in
    sent_single r (target_code x) target (judged_of r.core (Target x target)) i (codes x).0 (omega arith) (target_judged_lem r.core x target h)
sends r (Limit x limit) i f =
    let h = fits_one limit 16 f in
    sent_single r (limit_code x) limit (judged_of r.core (Limit x limit)) i (codes x).1 (omega arith) (limit_judged_lem r.core x limit h)
sends r (Mode low) i f =
    sent_single r 0x2B low (judged_of r.core (Mode low)) i (omega arith) (fits_one low 256 f) (mode_judged r.core low)
sends r (Stepping x low) i f =
    sent_single r (stepping_code x) low (judged_of r.core (Stepping x low)) i (codes x).2 (fits_one low 256 f) (stepping_judged r.core x low)
sends r (Multiplexers byte bit) i f =
    let h = fits_two byte 256 bit 2 f in
    sent_block r 0x20 byte bit (judged_of r.core (Multiplexers byte bit)) i (omega arith) h.0 (omega arith) (mux_judged r.core byte bit h.1)
sends r (DirectionWindow start stop) i f =
    let h = fits_two start 32 stop 32 f in
    sent_block r 0x23 start stop (judged_of r.core (DirectionWindow start stop)) i (omega arith) (omega arith) (omega arith) (direction_judged r.core start stop h.0 h.1)
sends r (EnergyWindow start stop) i f =
    let h = fits_two start 32 stop 32 f in
    sent_block r 0x24 start stop (judged_of r.core (EnergyWindow start stop)) i (omega arith) (omega arith) (omega arith) (energy_judged r.core start stop h.0 h.1)
