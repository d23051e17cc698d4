-- One walk of the command table: every verdict keeps the bounds of the core, orders of the sensor what its block says, and leaves the supplies that it is
-- not for. A supply's part is the supply's own law, for any of the three.
-- Assumes nothing.
use Rattle.std.specs.Prelude.{Ok, Err}
use mathlib.Core.Path.{◌≡◌, refl, ap, sym, ◌∙◌}
use mathlib.Core.Bool.{Bool, true, false, not, ◌||◌, true≢false}
use Prim.Native.Nat.{ℕ, ◌/◌, ◌%◌, ◌<◌, ◌≤◌}
use native.Mathlib.Omega.{arith}
use lib.Dec.{eqb, ltb}
use borrow.Author.Tests.{eqb-true, eqb-false}
use Rattle.base.specs.Pick.{pick}
use Rattle.base.proofs.Cases.{split}
use Rattle.supply.specs.Rules.{relay_of, relayed, targeted, limited, switched}
use Rattle.supply.specs.Laws.{Safe, Quiet, Leaves, SafeChange, QuietChange}
use Rattle.supply.specs.declared.Supply.{Supply}
use Rattle.supply.specs.Shapes.{RelayWord}
use Rattle.supply.specs.Shapes.{Change}
use Rattle.supply.proofs.Kept.{relayed_safe, targeted_safe, limited_safe, switched_safe, relayed_quiet, targeted_quiet, limited_quiet, switched_quiet}
use Rattle.crc.specs.declared.Judged.{Judged}
use Rattle.crc.specs.declared.Judged.TheVariants.{Right, Wrong}
use Rattle.judge.specs.declared.Which.{Which}
use Rattle.judge.specs.declared.Which.TheVariants.{Stop, Start, Deflection}
use Rattle.judge.specs.declared.Settings.{Settings}
use Rattle.judge.specs.declared.Core.{Core}
use Rattle.judge.specs.Shapes.{Verdict}
use Rattle.judge.specs.Commands.{carried, relay_to, ordered, mode_cmd, single_of, mux_word, window_of, counted_of, block_of}
use Rattle.judge.specs.Records.{supply_at, with_supply, with_settings, with_parallel, with_mask, with_iel, with_sensor, with_mux, with_direction, with_energy}
use Rattle.judge.specs.declared.Sensor.{Sensor}
use Rattle.rig.specs.declared.Pending.{Pending}
use Rattle.rig.specs.Words.{code_of, verdict_of}
use Rattle.laws.specs.Ordered.{Order, multiplexers, direction, energy, order_code, pair_of, asked_by}
use Rattle.laws.specs.Runs.{SensorBounds}
use Rattle.laws.specs.Supplies.{commands, is_relay}
use Rattle.laws.proofs.Tests.{by_test, or_true, each}

-- a supply within its bounds, its relay as said
pub record Up (on : Bool) (s : Supply) : Type 0 where
  pub safe : Safe s
  pub quiet : Quiet s
  pub relay : s.relay ≡ on

-- the bounds of the core, said of the parts that have one; the relay of the three is one
pub record Fit (s t d : Supply) (m : ℕ) (x : Sensor) : Type 0 where
  pub on : Bool
  pub stop : Up on s
  pub start : Up on t
  pub deflection : Up on d
  pub mask : m ≤ 7
  pub sensor : SensorBounds x

abbrev pub CoreFits : Core → Type 0
CoreFits c = Fit c.stop c.start c.deflection c.settings.mask c.settings.sensor

-- of any supply
pub up : (c : Core) (h : CoreFits c) (x : Which) → Up h.on (supply_at c x)
up c h = each (λ x. Up h.on (supply_at c x)) h.stop h.start h.deflection

supply_fits : (x : Which) (c : Core) (s : Supply) (h : CoreFits c) → Up h.on s → CoreFits (with_supply c x s)
supply_fits Stop c s h u = record { on = h.on; stop = u; start = h.start; deflection = h.deflection; mask = h.mask; sensor = h.sensor }
supply_fits Start c s h u = record { on = h.on; stop = h.stop; start = u; deflection = h.deflection; mask = h.mask; sensor = h.sensor }
supply_fits Deflection c s h u = record { on = h.on; stop = h.stop; start = h.start; deflection = u; mask = h.mask; sensor = h.sensor }

-- the core that a verdict applies, if it does: it fits where H holds, and is as P says
abbrev pub Keeps : Type 0 → (Core → Type 0) → Verdict → Type 0
Keeps H P (Ok d) = (H → CoreFits d) × P d
Keeps H P (Err why) = Unit {0}

-- of a single: nothing is ordered of the sensor, and a supply is left by a code that is neither 08h nor its own
abbrev pub KeepsSingle : Core → ℕ → Verdict → Type 0
KeepsSingle c code =
    Keeps (CoreFits c) (λ d.
    (d.settings.sensor ≡ c.settings.sensor)
    × ((x : Which) → is_relay code || commands x code ≡ false → supply_at d x ≡ supply_at c x))

-- of a command to a supply: the settings stay,
settings_kept : (c : Core) (s : Supply) (x : Which) → (with_supply c x s).settings ≡ c.settings
settings_kept c s = each (λ x. (with_supply c x s).settings ≡ c.settings) refl refl refl

-- and no other supply moves
others : (c : Core) (s : Supply) (test : Which → Bool) (y x : Which) → test y ≡ true → test x ≡ false → supply_at (with_supply c y s) x ≡ supply_at c x
others c s test Stop Stop t f = absurd (true≢false (sym t ∙ f))
others c s test Stop Start t f = refl
others c s test Stop Deflection t f = refl
others c s test Start Stop t f = refl
others c s test Start Start t f = absurd (true≢false (sym t ∙ f))
others c s test Start Deflection t f = refl
others c s test Deflection Stop t f = refl
others c s test Deflection Start t f = refl
others c s test Deflection Deflection t f = absurd (true≢false (sym t ∙ f))

-- a rule of a supply that keeps it within its bounds and leaves the relay
abbrev Ruled : (Supply → ℕ → Change) → Type 0
Ruled rule = (s : Supply) (low : ℕ) (on : Bool) → Up on s → Leaves (Up on) (rule s low)

together : {on : Bool} {s : Supply} (ch : Change) → Up on s → SafeChange ch → QuietChange ch → Leaves (λ n. n.relay ≡ s.relay) ch → Leaves (Up on) ch
together (Ok n) u safe quiet relay = record { safe = safe; quiet = quiet; relay = relay ∙ u.relay }
together (Err why) u safe quiet relay = tt

targets : Ruled targeted
unfolding targeted
targets s low on u =
    let L = Leaves (λ n. n.relay ≡ s.relay) in
    together (targeted s low) u (targeted_safe s low u.safe) (targeted_quiet s low u.quiet)
    (by_test L (not s.relay) (λ e. tt) (λ e. by_test L (not s.stepping) (λ e. tt) (λ e. by_test L (ltb s.limit (low % 16)) (λ e. tt) (λ e. refl))))

limits : Ruled limited
unfolding limited
limits s low on u =
    let L = Leaves (λ n. n.relay ≡ s.relay) in
    together (limited s low) u (limited_safe s low u.safe) (limited_quiet s low u.quiet)
    (by_test L (not (eqb s.level s.target)) (λ e. tt) (λ e. by_test L (ltb 15 (low % 16)) (λ e. tt) (λ e. refl)))

switches : Ruled switched
unfolding switched
switches s low on u =
    let L = Leaves (λ n. n.relay ≡ s.relay) in
    together (switched s low) u (switched_safe s low u.safe) (switched_quiet s low u.quiet)
    (by_test L (eqb low 0) (λ e. refl) (λ e. by_test L (eqb low 1) (λ e. refl) (λ e. tt)))

carried_keeps : (x : Which) (c : Core) (code : ℕ) (ch : Change) → ((h : CoreFits c) → Leaves (Up h.on) ch) → commands x code ≡ true
    → KeepsSingle c code (carried c x ch)
unfolding carried
carried_keeps x c code (Ok s) ruled own =
    (λ h. supply_fits x c s h (ruled h), (ap (λ (z : Settings). z.sensor) (settings_kept c s x), λ y n. others c s (λ z. is_relay code || commands z code) x y (rw own (or_true (is_relay code))) n))
carried_keeps x c code (Err why) ruled own = tt

-- a row of any supply
supply_keeps : (x : Which) (c : Core) (code low : ℕ) (rule : Supply → ℕ → Change) → Ruled rule → commands x code ≡ true
    → KeepsSingle c code (carried c x (rule (supply_at c x) low))
supply_keeps x c code low rule ruled own = carried_keeps x c code (rule (supply_at c x) low) (λ h. ruled (supply_at c x) low h.on (up c h x)) own

relayed_up : (s : Supply) (b : Bool) {on : Bool} → Up on s → Up b (relayed s b)
relayed_up s true u = record { safe = relayed_safe s true u.safe; quiet = relayed_quiet s true u.quiet; relay = refl }
relayed_up s false u = record { safe = relayed_safe s false u.safe; quiet = relayed_quiet s false u.quiet; relay = refl }

relayed_fits : (c : Core) (b : Bool) → CoreFits c → CoreFits (relay_to c b)
relayed_fits c b h =
    record {
      on = b;
      stop = relayed_up c.stop b h.stop;
      start = relayed_up c.start b h.start;
      deflection = relayed_up c.deflection b h.deflection;
      mask = h.mask;
      sensor = h.sensor;
    }

-- every supply may move
no_other : (x : Which) (code : ℕ) → eqb code 0x08 ≡ true → is_relay code || commands x code ≡ false → ⊥
no_other x code e n = true≢false (sym (rw e refl) ∙ n)

relay_keeps : (c : Core) (code : ℕ) → eqb code 0x08 ≡ true → (w : RelayWord) → KeepsSingle c code (ordered c w)
relay_keeps c code e (Ok true) = (relayed_fits c true, (refl, λ x n. absurd (no_other x code e n)))
relay_keeps c code e (Ok false) = (relayed_fits c false, (refl, λ x n. absurd (no_other x code e n)))
relay_keeps c code e (Err why) = tt

-- a command that moves the settings alone
settings_left : (c : Core) (s : Settings) (x : Which) → supply_at (with_settings c s) x ≡ supply_at c x
settings_left c s = each (λ x. supply_at (with_settings c s) x ≡ supply_at c x) refl refl refl

mode_keeps : (c : Core) (code low : ℕ) → KeepsSingle c code (mode_cmd c low)
unfolding mode_cmd
mode_keeps c code low =
    let K = KeepsSingle c code in
    by_test K (eqb low 0) (λ e. (λ h. h, (refl, λ x n. settings_left c (with_parallel c.settings false) x))) (λ e.
    by_test K (eqb low 1) (λ f. (λ h. h, (refl, λ x n. settings_left c (with_parallel c.settings true) x))) (λ f. tt))

mask_fits : (c : Core) (low : ℕ) → CoreFits c → Fit c.stop c.start c.deflection (low % 8) c.settings.sensor
mask_fits c low h = record { on = h.on; stop = h.stop; start = h.start; deflection = h.deflection; mask = omega arith; sensor = h.sensor }

pub single_keeps : (c : Core) (code low : ℕ) → KeepsSingle c code (single_of c code low)
unfolding single_of
single_keeps c code low =
    let K = KeepsSingle c code in
    by_test K (eqb code 0x08) (λ e. relay_keeps c code e (relay_of low)) (λ e.
    by_test K (eqb code 0x0C) (λ e. (λ h. h, (refl, λ x n. settings_left c (with_iel c.settings (record { clock = eqb (low % 2) 1; enable = eqb (low / 2 % 2) 1 })) x))) (λ e.
    by_test K (eqb code 0x20) (λ e. supply_keeps Start c code low targeted targets (rw (eqb-true code 0x20 e) refl)) (λ e.
    by_test K (eqb code 0x21) (λ e. supply_keeps Start c code low limited limits (rw (eqb-true code 0x21 e) refl)) (λ e.
    by_test K (eqb code 0x22) (λ e. supply_keeps Deflection c code low switched switches (rw (eqb-true code 0x22 e) refl)) (λ e.
    by_test K (eqb code 0x23) (λ e. supply_keeps Deflection c code low targeted targets (rw (eqb-true code 0x23 e) refl)) (λ e.
    by_test K (eqb code 0x24) (λ e. supply_keeps Deflection c code low limited limits (rw (eqb-true code 0x24 e) refl)) (λ e.
    by_test K (eqb code 0x26) (λ e. (λ h. mask_fits c low h, (refl, λ x n. settings_left c (with_mask c.settings (low % 8)) x))) (λ e.
    by_test K (eqb code 0x28) (λ e. supply_keeps Stop c code low targeted targets (rw (eqb-true code 0x28 e) refl)) (λ e.
    by_test K (eqb code 0x29) (λ e. supply_keeps Stop c code low limited limits (rw (eqb-true code 0x29 e) refl)) (λ e.
    by_test K (eqb code 0x2B) (λ e. mode_keeps c code low) (λ e.
    by_test K (eqb code 0x2C) (λ e. supply_keeps Start c code low switched switches (rw (eqb-true code 0x2C e) refl)) (λ e.
    by_test K (eqb code 0x2D) (λ e. supply_keeps Stop c code low switched switches (rw (eqb-true code 0x2D e) refl)) (λ e.
    tt)))))))))))))

-- the sensor with what one block orders
sensed : Order → Sensor → ℕ → ℕ → Sensor
sensed multiplexers s x y = with_mux s (mux_word x y)
sensed direction s x y = with_direction s (window_of x y)
sensed energy s x y = with_energy s (window_of x y)

sensed_fits : (q : Order) (s : Sensor) (x y : ℕ) → x < 0x100 → SensorBounds s → SensorBounds (sensed q s x y)
unfolding sensed
sensed_fits multiplexers s x y b h =
    record { mux = b; direction_start = h.direction_start; direction_stop = h.direction_stop; energy_start = h.energy_start; energy_stop = h.energy_stop }
sensed_fits direction s x y b h =
    record { mux = h.mux; direction_start = omega arith; direction_stop = omega arith; energy_start = h.energy_start; energy_stop = h.energy_stop }
sensed_fits energy s x y b h =
    record { mux = h.mux; direction_start = h.direction_start; direction_stop = h.direction_stop; energy_start = omega arith; energy_stop = omega arith }

ninth : (y : ℕ) → pick (eqb (y % 2) 1) 1 0 ≡ y % 2
ninth y =
    split (eqb (y % 2) 1)
    (λ e. rw e (sym (eqb-true (y % 2) 1 e)))
    (λ e. let n = eqb-false (y % 2) 1 e in let z : 0 ≡ y % 2 = omega arith in rw e z)

-- the part that a block of code `order_code q` orders, and no other
sensed_pair : (q p : Order) (s : Sensor) (x y : ℕ) → pair_of p (sensed q s x y) ≡ pick (eqb (order_code q) (order_code p)) (asked_by p x y) (pair_of p s)
unfolding sensed
sensed_pair multiplexers multiplexers s x y = ap (λ (b : ℕ). (x, b)) (ninth y)
sensed_pair multiplexers direction s x y = refl
sensed_pair multiplexers energy s x y = refl
sensed_pair direction multiplexers s x y = refl
sensed_pair direction direction s x y = refl
sensed_pair direction energy s x y = refl
sensed_pair energy multiplexers s x y = refl
sensed_pair energy direction s x y = refl
sensed_pair energy energy s x y = refl

-- what is ordered after an accepted block of that code with the bytes x and y, part by part
abbrev pub Asked : Sensor → ℕ → ℕ → ℕ → Sensor → Type 0
Asked s code x y t = (p : Order) → pair_of p t ≡ pick (eqb code (order_code p)) (asked_by p x y) (pair_of p s)

-- of a block: that, and every supply is left
abbrev pub KeepsBlock : Core → ℕ → ℕ → ℕ → Verdict → Type 0
KeepsBlock c code x y =
    Keeps (CoreFits c × (x < 0x100)) (λ d. Asked c.settings.sensor code x y d.settings.sensor × ((z : Which) → supply_at d z ≡ supply_at c z))

counted_keeps : (q : Order) (n : ℕ) (c : Core) (x y code : ℕ) → eqb code (order_code q) ≡ true
    → KeepsBlock c code x y (counted_of n c (sensed q c.settings.sensor x y))
unfolding counted_of
counted_keeps q n c x y code e =
    let s = c.settings.sensor in
    by_test (KeepsBlock c code x y) (eqb n 2)
    (λ f. (
      λ h. let k = h.0 in
          record { on = k.on; stop = k.stop; start = k.start; deflection = k.deflection; mask = k.mask; sensor = sensed_fits q s x y h.1 k.sensor },
      (rw (eqb-true code (order_code q) e) (λ p. sensed_pair q p s x y), settings_left c (with_sensor c.settings (sensed q s x y))),
    ))
    (λ f. tt)

block_keeps : (c : Core) (code n x y : ℕ) → KeepsBlock c code x y (block_of c code n x y)
unfolding block_of sensed
block_keeps c code n x y =
    let K = KeepsBlock c code x y in
    by_test K (eqb code 0x20) (counted_keeps multiplexers n c x y code) (λ e.
    by_test K (eqb code 0x23) (counted_keeps direction n c x y code) (λ e.
    by_test K (eqb code 0x24) (counted_keeps energy n c x y code) (λ e. tt)))

pub verdict_keeps : (j : Judged) (c : Core) (p : Pending) → KeepsBlock c (code_of p.head) p.first p.second (verdict_of j c p)
unfolding verdict_of
verdict_keeps Right c p = block_keeps c (code_of p.head) p.n p.first p.second
verdict_keeps Wrong c p = tt
