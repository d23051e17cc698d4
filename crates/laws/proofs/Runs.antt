-- What every run keeps (specs/Runs): one invariant of the rig and its ledger, kept by each happening; a run is an induction over its happenings.
-- Assumes nothing.
use Rattle.std.specs.Prelude.{Option, Some, None, is_some}
use Prim.Native.Nat.{ℕ, zero, suc, ◌+◌, ◌/◌, ◌%◌, ◌<◌, ◌≤◌}
use mathlib.Core.Path.{◌≡◌, refl, ap, sym, subst, ◌∙◌}
use mathlib.Core.Bool.{Bool, true, false, true≢false}
use mathlib.Core.List.{List, [], ◌∷◌}
use native.Mathlib.Omega.{arith}
use native.Mathlib.Nat.{not-suc-le-zero}
use native.Mathlib.Decide.{ℕ_discrete}
use lib.Dec.{eqb}
use lib.ListN.{length}
use Rattle.supply.specs.declared.Supply.{Supply}
use Rattle.supply.specs.Rules.{stepped}
use Rattle.supply.specs.Laws.{SpinMoves}
use Rattle.supply.proofs.Ramp.{spin_moves}
use Rattle.supply.proofs.Kept.{stepped_safe, stepped_quiet}
use Rattle.base.specs.Pick.{pick}
use Rattle.frame.specs.Items.{items, held_at}
use Rattle.frame.specs.Read.{rem_of, is_plain}
use Rattle.frame.proofs.Rows.{plain_lt}
use Rattle.judge.specs.declared.Which.{Which}
use Rattle.judge.specs.declared.Which.TheVariants.{Stop, Start, Deflection}
use Rattle.judge.specs.Records.{supply_at}
use Rattle.rig.specs.declared.Panel.{Panel}
use Rattle.power.specs.declared.PanelSetting.{PanelSetting}
use Rattle.power.specs.declared.PanelSetting.TheVariants.{Bias, Ground, FreeTime, Flap1, Flap2, Flap3}
use Rattle.rig.specs.declared.Pending.{Pending}
use Rattle.rig.specs.declared.Sending.{Sending}
use Rattle.rig.specs.declared.Rig.{Rig}
use Rattle.rig.specs.Records.{with_panel, with_sending}
use Rattle.rig.specs.Words.{high_of, low_of, take_of}
use Rattle.rig.specs.Replies.{refusals_of}
use Rattle.rig.specs.Start.{clear_sensor, off_supply, start_rig}
use Rattle.power.specs.Power.{panel_of, spun_of, set_of}
use Rattle.sending.specs.Sending.{held_of, bit, next_latch}
use Rattle.laws.specs.Results.{none, check_in}
use Rattle.laws.specs.Ordered.{Order, multiplexers, direction, energy, pair_of}
use Rattle.laws.specs.Replies.{closing}
use Rattle.laws.specs.Runs.{FitsPanel, Happening, word, spin, set, cut, frame, ours, happened, rig_after, held_as, Ledger, nothing_given, latest_error, latest_code, ordered_by, entered, ledger, rig_reached, given, SensorBounds, Bounds, panel_by, Kept, SetMoves, RunLaws}
use Rattle.laws.proofs.Tests.{by_test, by_option, each}
use Rattle.laws.proofs.Words.{case}
use Rattle.laws.proofs.Replies.{reply_laws, ordered_word}
use Rattle.laws.proofs.Commands.{Up, up}
use Rattle.laws.proofs.Bounds.{PendingFits, fits_some, Fits, word_fits, Told, told}
use Rattle.laws.proofs.Begun.{begun_word, closed_by_lem, check_of_lem, named_by_lem, ordered_by_lem}

record PanelFits (p : Panel) : Type 0 where
  bias : p.bias < 0x100
  ground : p.ground < 0x100
  free : p.free < 0x10000

record SendingFits (s : Sending) : Type 0 where
  next : s.next ≤ 31
  latch : s.latch < 0x100000000

record Inv (r : Rig) (l : Ledger) : Type 0 where
  told : Told r.faults l.refusals l.error l.last
  counter : r.edbs.0 ≡ l.spins % 0x100000000
  holds : r.pending ≡ held_as l.begun
  check : r.check ≡ l.check
  byte : r.check < 0x100
  fits : Fits r
  panel : PanelFits r.panel
  sending : SendingFits r.sending
  ordered : (p : Order) → pair_of p r.core.settings.sensor ≡ l.ordered p
  register : (p : Order) → pair_of p r.register ≡ l.register p
  sensor : SensorBounds r.register

clear_fits : SensorBounds clear_sensor
clear_fits = record { mux = omega arith; direction_start = omega arith; direction_stop = omega arith; energy_start = omega arith; energy_stop = omega arith }

clear_pair : (p : Order) → pair_of p clear_sensor ≡ (0, 0)
clear_pair multiplexers = refl
clear_pair direction = refl
clear_pair energy = refl

off_up : Up false off_supply
off_up = record { safe = record { under = omega arith; limit_small = omega arith; level_small = omega arith }; quiet = λ e. (refl, refl); relay = refl }

start_inv : Inv start_rig nothing_given
start_inv =
    record {
      told = record { count = refl; error = refl; last = refl; small = omega arith; known = refl; fits = omega arith };
      counter = refl;
      holds = refl;
      check = refl;
      byte = omega arith;
      fits = (
        record { on = false; stop = off_up; start = off_up; deflection = off_up; mask = omega arith; sensor = clear_fits },
        tt,
      );
      panel = record { bias = omega arith; ground = omega arith; free = omega arith };
      sending = record { next = omega arith; latch = omega arith };
      ordered = clear_pair;
      register = clear_pair;
      sensor = clear_fits;
    }

check_fits : (o : Option Pending) → PendingFits o → check_in o < 0x100
check_fits None h = omega arith
check_fits (Some p) h = h.so_far

word_inv : (r : Rig) (l : Ledger) (w : ℕ) (h : w < 0x10000) → Inv r l → Inv (take_of r w).rig (entered ours r (word w h) l)
word_inv r l w h i =
    let high : high_of w < 0x100 = omega arith in
    let low : low_of w < 0x100 = omega arith in
    let q = (take_of r w).rig in
    let reply = (take_of r w).reply in
    let p = i.fits.1 in
    let apart = reply_laws.apart r w in
    let check = reply_laws.check r w in
    record {
      told = subst (λ (b : ℕ). Told q.faults (l.refusals + length (refusals_of reply)) (latest_error l.error reply) (latest_code l.last b (w / 256) reply)) (named_by_lem r l.begun w i.holds)
          (told r q w reply l.refusals l.error l.last (reply_laws.moves r w) p high i.told);
      counter = rw apart.edbs i.counter;
      holds = begun_word r l.begun w i.holds;
      check = check ∙ simp (closed_by_lem r l.begun w i.holds, check_of_lem r l.begun i.holds, i.check);
      byte = rw check (by_test (◌< 0x100) (closing r w) (λ e. check_fits r.pending p) (λ e. i.byte));
      fits = word_fits (case r w) high low i.fits;
      panel = rw apart.panel i.panel;
      sending = rw apart.sending i.sending;
      ordered = λ p.
          ordered_word r w p
          ∙ ordered_by_lem r l.begun w reply p (pair_of p r.core.settings.sensor) i.holds
          ∙ ap (ordered_by p l.begun w reply) (i.ordered p);
      register = rw apart.register i.register;
      sensor = rw apart.register i.sensor;
    }

panel_set : (p : Panel) (s : PanelSetting) → FitsPanel s → PanelFits p → PanelFits (panel_of p s)
panel_set p (Bias b) k h = record { bias = k; ground = h.ground; free = h.free }
panel_set p (Ground b) k h = record { bias = h.bias; ground = k; free = h.free }
panel_set p (FreeTime t) k h = record { bias = h.bias; ground = h.ground; free = k }
panel_set p (Flap1 b) k h = record { bias = h.bias; ground = h.ground; free = h.free }
panel_set p (Flap2 b) k h = record { bias = h.bias; ground = h.ground; free = h.free }
panel_set p (Flap3 b) k h = record { bias = h.bias; ground = h.ground; free = h.free }

-- a spin leaves the relay
stepped_up : {on : Bool} (s : Supply) → Up on s → Up on (stepped s)
stepped_up s u =
    record { safe = stepped_safe s u.safe; quiet = stepped_quiet s u.quiet; relay = ap (λ (n : Supply). n.relay) (spin_moves s).alone ∙ u.relay }

after_inv : (r : Rig) (l : Ledger) (e : Happening) → Inv r l → Inv (happened ours r e) (entered ours r e l)
unfolding set_of
after_inv r l (word w h) i = word_inv r l w h i
after_inv r l spin i =
    let c = i.fits.0 in
    record {
      told = i.told;
      counter = let e = i.counter in omega arith;
      holds = i.holds;
      check = i.check;
      byte = i.byte;
      fits = (
        record {
          on = c.on;
          stop = stepped_up r.core.stop c.stop;
          start = stepped_up r.core.start c.start;
          deflection = stepped_up r.core.deflection c.deflection;
          mask = c.mask;
          sensor = c.sensor;
        },
        i.fits.1,
      );
      panel = i.panel;
      sending = i.sending;
      ordered = i.ordered;
      register = i.ordered;
      sensor = c.sensor;
    }
after_inv r l (set s h) i =
    record { told = i.told; counter = i.counter; holds = i.holds; check = i.check; byte = i.byte; fits = i.fits; panel = panel_set r.panel s h i.panel; sending = i.sending; ordered = i.ordered; register = i.register; sensor = i.sensor }
after_inv r l cut i = start_inv
after_inv r l frame i =
    let long : r.edbs.0 < 0x100000000 = let e = i.counter in omega arith in
    let free : r.panel.free < 0x100000000 = let e = i.panel.free in omega arith in
    let at = r.sending.next % 32 in
    let latched : next_latch r < 0x100000000 = by_test (◌< 0x100000000) (eqb at 0) (λ e. long) (λ e. by_test (◌< 0x100000000) (eqb at 27) (λ f. free) (λ f. i.sending.latch)) in
    record { told = i.told; counter = i.counter; holds = i.holds; check = i.check; byte = i.byte; fits = i.fits; panel = i.panel; sending = record { next = omega arith; latch = latched }; ordered = i.ordered; register = i.register; sensor = i.sensor }

run_inv : (r : Rig) (l : Ledger) (es : List Happening) → Inv r l → Inv (rig_after ours r es) (ledger ours r l es)
unfolding rig_after ledger
run_inv r l [] i = i
run_inv r l (e ∷ es) i = run_inv (happened ours r e) (entered ours r e l) es (after_inv r l e i)

always : (es : List Happening) → Inv (rig_reached ours es) (given ours es)
always es = run_inv start_rig nothing_given es start_inv

bounded : {r : Rig} {l : Ledger} → Inv r l → Bounds r
bounded {r} i =
    let c = i.fits.0 in
    record {
      supply = λ x. let u = up r.core c x in record { target = u.safe.under; limit = u.safe.limit_small; level = u.safe.level_small; off = u.quiet };
      relays = λ x y. (up r.core c x).relay ∙ sym (up r.core c y).relay;
      mask = c.mask;
      ordered = c.sensor;
      register = i.sensor;
      error = i.told.small;
      last = i.told.fits;
      count = let e = i.told.count in omega arith;
      check = i.byte;
      pending = λ b e. fits_some e i.fits.1;
      idle = by_option {P = is_some r.pending ≡ false → r.pending ≡ none} r.pending (λ e k. e) (λ b e k. absurd (true≢false (sym (ap is_some e) ∙ k)));
      bias = i.panel.bias;
      ground = i.panel.ground;
      free = i.panel.free;
      next = i.sending.next;
      latch = i.sending.latch;
      edbs = let e = i.counter in omega arith;
    }

-- f is below g at each number below n
abbrev Under : (f g : ℕ → ℕ) → ℕ → Type 0
Under f g zero = Unit {0}
Under f g (suc n) = (f n < g n) × Under f g n

under : (f g : ℕ → ℕ) (n : ℕ) → Under f g n → (k : ℕ) → k < n → f k < g k
under f g zero u k h = absurd (not-suc-le-zero h)
under f g (suc n) u k h =
    elim (ℕ_discrete k n) [
      | yes e ↦ subst (λ (m : ℕ). f m < g m) (sym e) u.0
      | no ne ↦ under f g n u.1 k (omega arith)
    ]

bit_small : (b : Bool) → bit b < 2
bit_small true = omega arith
bit_small false = omega arith

-- the switches are bits; the rest is within its bounds, or reduced
abbrev plain_held : Rig → ℕ → ℕ
plain_held r k = pick (is_plain k) (held_at (held_of r) k) 0

-- the rows up to the free time's, and those of start and deflection behind them
first_small : (r : Rig) → Bounds r → Under (plain_held r) rem_of 27
unfolding is_plain
first_small r b =
    let s = r.core.settings in
    let p = r.panel in
    let register = b.register in
    let parallel = bit_small s.parallel in
    let enable = bit_small s.iel.enable in
    let clock = bit_small s.iel.clock in
    let relay = bit_small r.core.stop.relay in
    let stop = b.supply Stop in
    let stepping = bit_small r.core.stop.stepping in
    let flap1 = bit_small p.flap1 in
    let flap2 = bit_small p.flap2 in
    let flap3 = bit_small p.flap3 in
    omega arith

small : (r : Rig) → Bounds r → Under (plain_held r) rem_of items
unfolding is_plain
small r b =
    let start = b.supply Start in
    let deflection = b.supply Deflection in
    let start_stepping = bit_small r.core.start.stepping in
    let deflection_stepping = bit_small r.core.deflection.stepping in
    (omega arith, (omega arith, (omega arith, (omega arith, (omega arith, (omega arith, first_small r b))))))

widths : (r : Rig) → Bounds r → (k : ℕ) → is_plain k ≡ true → held_at (held_of r) k < rem_of k
widths r b k h =
    subst (λ (t : Bool). pick t (held_at (held_of r) k) 0 < rem_of k) h (under (plain_held r) rem_of items (small r b) k (plain_lt k h))

pub panel_is : (p : Panel) (s : PanelSetting) → panel_of p s ≡ panel_by p s
panel_is p (Bias b) = refl
panel_is p (Ground b) = refl
panel_is p (FreeTime t) = refl
panel_is p (Flap1 b) = refl
panel_is p (Flap2 b) = refl
panel_is p (Flap3 b) = refl

all_kept : (r : Rig) (p : Panel) (s : Sending)
    → Kept r (with_sending (with_panel r p) s)
all_kept r p s = record { core = refl; register = refl; faults = refl; pending = refl; check = refl; edbs = refl }

set_moves : (r : Rig) (s : PanelSetting) → SetMoves r s (set_of r s)
unfolding set_of
set_moves r s = record { panel = panel_is r.panel s; sending = refl; kept = all_kept r (panel_of r.panel s) r.sending }

spun : (r : Rig) (x : Which) → SpinMoves (supply_at r.core x) (supply_at (spun_of r).core x)
spun r =
    each (λ x. SpinMoves (supply_at r.core x) (supply_at (spun_of r).core x))
    (spin_moves r.core.stop) (spin_moves r.core.start) (spin_moves r.core.deflection)

pub run_laws : RunLaws ours
run_laws =
    record {
      count = λ es. (always es).told.count;
      counter = λ es. (always es).counter;
      error = λ es. (always es).told.error;
      last = λ es. (always es).told.last;
      errors = λ es. (always es).told.known;
      check = λ es. (always es).check;
      holds = λ es. (always es).holds;
      ordered = λ es. (always es).ordered;
      register = λ es. (always es).register;
      bounds = λ es. bounded (always es);
      widths = λ es. widths (rig_reached ours es) (bounded (always es));
      set = set_moves;
      sent = λ r. record { next = refl; latch = refl; panel = refl; kept = all_kept r r.panel _ };
      spin = λ r. record { supply = spun r; register = refl; edbs = refl; settings = refl; faults = refl; pending = refl; check = refl; panel = refl; sending = refl };
      cut = λ r. refl;
    }
