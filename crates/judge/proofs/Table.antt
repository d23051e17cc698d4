-- The laws of the command table (specs/Table.antt). A byte's bits under a mask are all that a rule reads of it: one test, computed for the 256 bytes.
-- Assumes nothing.
use Rattle.std.specs.Prelude.{Ok, Err}
use mathlib.Core.Path.{◌≡◌, refl, sym, ap, ◌∙◌}
use mathlib.Core.Bool.{Bool, true, false, not, ◌||◌, true≢false}
use mathlib.Core.Logic.{◌⊎◌, inl, inr, ⊎_elim}
use Prim.Native.Nat.{ℕ, ◌+◌, ◌*◌, ◌/◌, ◌%◌, ◌^◌, ◌≤◌, ◌<◌}
use native.Mathlib.Omega.{arith}
use lib.Bits.{bit_and}
use lib.Dec.{T, eqb, eqb→eq}
use borrow.Author.Tests.{eq-eqb, ne_eqb}
use Rattle.base.specs.Pick.{pick}
use Rattle.base.proofs.Table.{all_below, below}
use Rattle.supply.specs.declared.Refusal.{Refusal as SupplyRefusal}
use Rattle.supply.specs.declared.Refusal.TheVariants as supply
use Rattle.supply.specs.Rules.{relay_of, targeted, limited, switched, number_of as supplyNumberOf}
use Rattle.supply.specs.declared.Supply.{Supply}
use Rattle.judge.specs.declared.Which.{Which}
use Rattle.judge.specs.declared.Which.TheVariants.{Stop, Start, Deflection}
use Rattle.judge.specs.declared.Core.{Core}
use Rattle.judge.specs.declared.Refusal.{Refusal}
use Rattle.judge.specs.declared.Refusal.TheVariants.{RelayOff, Disabled, OverLimit, StrayWord, RelayBits, WrongCheck, Unsettled, OutOfRange, WrongCount, UnknownCode}
use Rattle.judge.specs.Shapes.{Verdict}
use Rattle.judge.specs.Refusals.{number_of, raised}
use Rattle.judge.specs.Commands.{carried, relay_cmd, iel_cmd, mask_cmd, target_cmd, limit_cmd, mode_cmd, stepping_cmd, single_of, mux_cmd, direction_cmd, energy_cmd, counted_of, block_of}
use Rattle.judge.specs.Table.{singles, blocks, target_code, limit_code, stepping_code, NoneOf, named_bits, named_bits2, Agree, has, TableLaws}

between : (r : Refusal) → ((0x04 ≤ number_of r) × (number_of r ≤ 0x06)) ⊎ ((0x0B ≤ number_of r) × (number_of r ≤ 0x0F))
between RelayOff = inl (omega arith, omega arith)
between Disabled = inl (omega arith, omega arith)
between OverLimit = inl (omega arith, omega arith)
between StrayWord = inr (omega arith, omega arith)
between RelayBits = inr (omega arith, omega arith)
between WrongCheck = inr (omega arith, omega arith)
between Unsettled = inr (omega arith, omega arith)
between OutOfRange = inr (omega arith, omega arith)
between WrongCount = inr (omega arith, omega arith)
between UnknownCode = inr (omega arith, omega arith)

kept : (r : SupplyRefusal) → number_of (raised r) ≡ supplyNumberOf r
kept supply.RelayOff = refl
kept supply.Disabled = refl
kept supply.OverLimit = refl
kept supply.RelayBits = refl
kept supply.Unsettled = refl
kept supply.OutOfRange = refl

unknown : (c : Core) (code low : ℕ) → NoneOf singles code → single_of c code low ≡ Err UnknownCode
unfolding single_of
unknown c code low h =
    simp (ne_eqb _ _ h.0, ne_eqb _ _ h.1.0, ne_eqb _ _ h.1.1.0, ne_eqb _ _ h.1.1.1.0, ne_eqb _ _ h.1.1.1.1.0, ne_eqb _ _ h.1.1.1.1.1.0, ne_eqb _ _ h.1.1.1.1.1.1.0, ne_eqb _ _ h.1.1.1.1.1.1.1.0, ne_eqb _ _ h.1.1.1.1.1.1.1.1.0, ne_eqb _ _ h.1.1.1.1.1.1.1.1.1.0, ne_eqb _ _ h.1.1.1.1.1.1.1.1.1.1.0, ne_eqb _ _ h.1.1.1.1.1.1.1.1.1.1.1.0, ne_eqb _ _ h.1.1.1.1.1.1.1.1.1.1.1.1.0)

unknown2 : (c : Core) (code n x y : ℕ) → NoneOf blocks code → block_of c code n x y ≡ Err UnknownCode
unfolding block_of
unknown2 c code n x y h = simp (ne_eqb _ _ h.0, ne_eqb _ _ h.1.0, ne_eqb _ _ h.1.1.0)

-- f reads of a byte what the mask leaves, so it is the same on bytes that agree
module _ (mask : ℕ) (f : ℕ → ℕ) (t : T (all_below (λ x. eqb (f (bit_and x mask)) (f x)) 0x100)) where
  seen : (a : ℕ) → a < 0x100 → f (bit_and a mask) ≡ f a
  seen a h = eqb→eq (f (bit_and a mask)) (f a) (below (λ x. eqb (f (bit_and x mask)) (f x)) 0x100 t a h)

  reads : (a b : ℕ) → a < 0x100 → b < 0x100 → Agree mask a b → f a ≡ f b
  reads a b ha hb e = sym (seen a ha) ∙ ap f e ∙ seen b hb

-- one row of a table of masks beside the same row of a table of verdicts
row : {A : Type 0} (P : A → Type 0) (t : Bool) {m n : A} {v w v' w' : Verdict} → (P m → v ≡ v') → (P n → w ≡ w') → P (pick t m n) → pick t v w ≡ pick t v' w'
row P true f g h = f h
row P false f g h = g h

module _ (c : Core) (a b : ℕ) (ha : a < 0x100) (hb : b < 0x100) where
  relay_same : Agree (named_bits 0x08) a b → relay_cmd c a ≡ relay_cmd c b
  unfolding relay_of
  relay_same e = simp (reads (named_bits 0x08) (λ x. x / 2 % 2) tt a b ha hb e, reads (named_bits 0x08) (λ x. x / 32 % 2) tt a b ha hb e)

  iel_same : Agree (named_bits 0x0C) a b → iel_cmd c a ≡ iel_cmd c b
  iel_same e = simp (reads (named_bits 0x0C) (λ x. x % 2) tt a b ha hb e, reads (named_bits 0x0C) (λ x. x / 2 % 2) tt a b ha hb e)

  mask_same : Agree (named_bits 0x26) a b → mask_cmd c a ≡ mask_cmd c b
  mask_same e = simp (reads (named_bits 0x26) (λ x. x % 8) tt a b ha hb e)

  target_same : (x : Which) → Agree 0x0F a b → target_cmd x c a ≡ target_cmd x c b
  unfolding targeted
  target_same x e = simp (reads 0x0F (λ y. y % 16) tt a b ha hb e)

  limit_same : (x : Which) → Agree 0x0F a b → limit_cmd x c a ≡ limit_cmd x c b
  unfolding limited
  limit_same x e = simp (reads 0x0F (λ y. y % 16) tt a b ha hb e)

  mode_same : Agree (named_bits 0x2B) a b → mode_cmd c a ≡ mode_cmd c b
  mode_same e = ap (mode_cmd c) (reads (named_bits 0x2B) (λ x. x) tt a b ha hb e)

  stepping_same : (x : Which) → Agree 0xFF a b → stepping_cmd x c a ≡ stepping_cmd x c b
  stepping_same x e = ap (stepping_cmd x c) (reads 0xFF (λ y. y) tt a b ha hb e)

ignored : (c : Core) (code a b : ℕ) → a < 0x100 → b < 0x100 → Agree (named_bits code) a b → single_of c code a ≡ single_of c code b
unfolding single_of
ignored c code a b ha hb =
    let P : ℕ → Type 0 = λ m. Agree m a b in
    row P (eqb code 0x08) (relay_same c a b ha hb) (
    row P (eqb code 0x0C) (iel_same c a b ha hb) (
    row P (eqb code 0x20) (target_same c a b ha hb Start) (
    row P (eqb code 0x21) (limit_same c a b ha hb Start) (
    row P (eqb code 0x22) (stepping_same c a b ha hb Deflection) (
    row P (eqb code 0x23) (target_same c a b ha hb Deflection) (
    row P (eqb code 0x24) (limit_same c a b ha hb Deflection) (
    row P (eqb code 0x26) (mask_same c a b ha hb) (
    row P (eqb code 0x28) (target_same c a b ha hb Stop) (
    row P (eqb code 0x29) (limit_same c a b ha hb Stop) (
    row P (eqb code 0x2B) (mode_same c a b ha hb) (
    row P (eqb code 0x2C) (stepping_same c a b ha hb Start) (
    row P (eqb code 0x2D) (stepping_same c a b ha hb Stop) (
    λ _. refl)))))))))))))

module _ (c : Core) (n a x b y : ℕ) (ha : a < 0x100) (hx : x < 0x100) (hb : b < 0x100) (hy : y < 0x100) where
  abbrev Both : ℕ × ℕ → Type 0
  Both m = Agree m.0 a b × Agree m.1 x y

  mux_same : Both (named_bits2 0x20) → mux_cmd c n a x ≡ mux_cmd c n b y
  mux_same e = simp (reads (named_bits2 0x20).0 (λ z. z) tt a b ha hb e.0, reads (named_bits2 0x20).1 (λ z. z % 2) tt x y hx hy e.1)

  direction_same : Both (named_bits2 0x23) → direction_cmd c n a x ≡ direction_cmd c n b y
  direction_same e = simp (reads (named_bits2 0x23).0 (λ z. z % 32) tt a b ha hb e.0, reads (named_bits2 0x23).1 (λ z. z % 32) tt x y hx hy e.1)

  energy_same : Both (named_bits2 0x24) → energy_cmd c n a x ≡ energy_cmd c n b y
  energy_same e = simp (reads (named_bits2 0x24).0 (λ z. z % 32) tt a b ha hb e.0, reads (named_bits2 0x24).1 (λ z. z % 32) tt x y hx hy e.1)

  ignored_both : (code : ℕ) → Both (named_bits2 code) → block_of c code n a x ≡ block_of c code n b y
  unfolding block_of
  ignored_both code =
      row Both (eqb code 0x20) mux_same (
      row Both (eqb code 0x23) direction_same (
      row Both (eqb code 0x24) energy_same (
      λ _. refl)))

-- A core at which every command may be accepted: relay and stepping on, limit 15.
abbrev up : Supply
up = record { relay = true; stepping = true; level = 0; target = 0; limit = 15 }

abbrev ready : Core
ready =
    record {
      stop = up;
      start = up;
      deflection = up;
      settings = record {
        parallel = false;
        mask = 0;
        iel = record { clock = false; enable = false };
        sensor = record { mux = record { byte = 0; bit = false }; direction = record { start = 0; stop = 0 }; energy = record { start = 0; stop = 0 } };
      };
    }

abbrev digit : Bool → ℕ
digit b = pick b 1 0

-- a number that tells one supply from another, under 1024
abbrev told_supply : Supply → ℕ
told_supply s = digit s.relay + 2 * digit s.stepping + 4 * s.target + 64 * s.limit

-- a number that tells a verdict on `ready` from another: each part that a command moves in a place of its own
abbrev told : Verdict → ℕ
told (Err why) = 0
told (Ok c) =
    let x = c.settings.sensor in
    1 + digit c.settings.parallel + 2 * digit c.settings.iel.clock + 4 * digit c.settings.iel.enable + 8 * digit x.mux.bit + 16 * c.settings.mask
    + 128 * (x.mux.byte + x.direction.start + 32 * x.direction.stop + x.energy.start + 32 * x.energy.stop)
    + 1048576 * (told_supply c.stop + 1024 * told_supply c.start + 1048576 * told_supply c.deflection)

-- where a bit of the mask is set, the two verdicts are told apart
abbrev apart : ℕ → ℕ → Verdict → Verdict → Bool
apart mask k v w = not (has mask k) || not (eqb (told v) (told w))

-- of each code, by each bit: computed
abbrev Tested : (ℕ → ℕ) → (ℕ → ℕ → Verdict) → (ℕ → ℕ → Verdict) → Type 0
Tested mask none some = T (all_below (λ code. all_below (λ k. apart (mask code) k (none code k) (some code k)) 8) 64)

module _ (mask : ℕ → ℕ) (none some : ℕ → ℕ → Verdict) (t : Tested mask none some) where
  differs : (code k : ℕ) → code < 64 → k < 8 → has (mask code) k ≡ true → none code k ≡ some code k → ⊥
  differs code k h l e f =
      let z = below (λ j. apart (mask code) j (none code j) (some code j)) 8 (below (λ c. all_below (λ j. apart (mask c) j (none c j) (some c j)) 8) 64 t code h) k l in
      contra (has (mask code) k) (eqb (told (none code k)) (told (some code k))) e (eq-eqb _ _ (ap told f)) z
    where
      contra : (a b : Bool) → a ≡ true → b ≡ true → T (not a || not b) → ⊥
      contra true true p q z = z
      contra true false p q z = true≢false (sym q)
      contra false b p q z = true≢false (sym p)

test : Tested named_bits (λ c j. single_of ready c 0) (λ c j. single_of ready c (2 ^ j))
unfolding single_of carried relay_of targeted limited switched mode_cmd
test = tt

test_first : Tested (λ c. (named_bits2 c).0) (λ c j. block_of ready c 2 0 0) (λ c j. block_of ready c 2 (2 ^ j) 0)
unfolding block_of counted_of
test_first = tt

test_second : Tested (λ c. (named_bits2 c).1) (λ c j. block_of ready c 2 0 0) (λ c j. block_of ready c 2 0 (2 ^ j))
unfolding block_of counted_of
test_second = tt

target : (x : Which) (c : Core) (low : ℕ) → single_of c (target_code x) low ≡ target_cmd x c low
unfolding single_of
target Stop c low = refl
target Start c low = refl
target Deflection c low = refl

limit : (x : Which) (c : Core) (low : ℕ) → single_of c (limit_code x) low ≡ limit_cmd x c low
unfolding single_of
limit Stop c low = refl
limit Start c low = refl
limit Deflection c low = refl

stepping : (x : Which) (c : Core) (low : ℕ) → single_of c (stepping_code x) low ≡ stepping_cmd x c low
unfolding single_of
stepping Stop c low = refl
stepping Start c low = refl
stepping Deflection c low = refl

pub laws : TableLaws
unfolding single_of block_of
laws =
    record {
      numbers = (refl, refl, refl, refl, refl, refl, refl, refl, refl, refl);
      never07 = λ r e. ⊎_elim (λ h. omega arith) (λ h. omega arith) (between r);
      never03 = λ r e. ⊎_elim (λ h. omega arith) (λ h. omega arith) (between r);
      kept = kept;
      relay = λ c low. refl;
      iel = λ c low. refl;
      mask = λ c low. refl;
      target = target;
      limit = limit;
      mode = λ c low. refl;
      stepping = stepping;
      unknown = unknown;
      mux = λ c n x y. refl;
      direction = λ c n x y. refl;
      energy = λ c n x y. refl;
      unknown2 = unknown2;
      ignored = ignored;
      ignored2 = λ c code n a x b y ha hx hb hy e f. ignored_both c n a x b y ha hx hb hy code (e, f);
      read = λ code k h l e. (ready, differs named_bits (λ c j. single_of ready c 0) (λ c j. single_of ready c (2 ^ j)) test code k h l e);
      read_first = λ code k h l e. (ready, differs (λ c. (named_bits2 c).0) (λ c j. block_of ready c 2 0 0) (λ c j. block_of ready c 2 (2 ^ j) 0) test_first code k h l e);
      read_second = λ code k h l e. (ready, differs (λ c. (named_bits2 c).1) (λ c j. block_of ready c 2 0 0) (λ c j. block_of ready c 2 0 (2 ^ j)) test_second code k h l e);
    }
