-- When a setting shows (specs/Register), of ours: what is held is read back, and the register is followed by the laws of the rig.
-- Assumes nothing.
use Rattle.std.specs.Prelude.{Some}
use mathlib.Core.Path.{◌≡◌, refl, ap, subst, ◌∙◌}
use mathlib.Core.Bool.{Bool, true, not, ◌||◌}
use mathlib.Core.List.{List, [], ◌∷◌, ◌++◌}
use Prim.Native.Nat.{ℕ, ◌%◌, ◌<◌}
use native.Mathlib.Nat.{mod-eq_of_lt}
use native.Mathlib.Omega.{arith}
use lib.Dec.{eqb}
use lib.ListN.{get_or}
use borrow.Author.Tests.{eq-eqb}
use Rattle.base.proofs.Table.{below}
use Rattle.frame.specs.declared.Item.{Item}
use Rattle.frame.specs.Items.{items, row_of, held_at}
use Rattle.frame.specs.Read.{is_plain, carries, read_of}
use Rattle.frame.proofs.Laws.{laws as frame-laws}
use Rattle.frame.proofs.Rows.{row_lt}
use Rattle.rig.specs.declared.Rig.{Rig}
use Rattle.rig.specs.Start.{start_rig}
use Rattle.sending.specs.Sending.{held_of, next_latch, next_frame}
use Rattle.laws.specs.Ordered.{Order, multiplexers, direction, energy, pair_of, asked_by, asked_in}
use Rattle.laws.specs.Runs.{Happening, word, spin, block, held_as, ours, happened, rig_after, rig_reached, given}
use Rattle.laws.specs.Register.{orders, NoSpin, NoOrder}
use Rattle.laws.proofs.Runs.{run_laws}
use Rattle.laws.proofs.Register.{register_laws}
use Rattle.demands.specs.Outfit.{proved}
use Rattle.demands.specs.Held.{names}
use Rattle.demands.specs.Register.{of_sensor, at_once, both_lists, Reads, Carries, Each, ShownWhen}
use Rattle.demands.proofs.Held.{second}

-- what a frame carries reads back modulo its width, and fits it
pub shows : (es : List Happening) (k : ℕ) → is_plain k ≡ true → carries k (rig_reached ours es).sending.next ≡ true
    → read_of (next_frame (rig_reached ours es)) k ≡ Some (held_at (held_of (rig_reached ours es)) k)
shows es k l e =
    let r = rig_reached ours es in
    frame-laws.back (held_of r) r.sending.next (next_latch r) k l e ∙ ap Some (mod-eq_of_lt (run_laws.widths es k l))

-- plain items, each with the value that the rig holds of it
abbrev Plain : Rig → Item × ℕ → Type 0
Plain r x = (is_plain (row_of x.0) ≡ true) × (held_at (held_of r) (row_of x.0) ≡ x.1)

carried : (es : List Happening) (x : Item × ℕ) → Plain (rig_reached ours es) x → Carries (rig_reached ours es) x → Reads proved (rig_reached ours es) x
carried es x h c = shows es (row_of x.0) h.0 c ∙ ap Some h.1

each : {P Q : Item × ℕ → Type 0} → ((x : Item × ℕ) → P x → Q x) → (xs : List (Item × ℕ)) → Each P xs → Each Q xs
each f [] h = tt
each f (x ∷ xs) h = (f x h.0, each f xs h.1)

others_held : (r : Rig) → Each (Plain r) (at_once r)
unfolding is_plain
others_held r =
    ((refl, refl), ((refl, refl), ((refl, refl), ((refl, refl), ((refl, refl), ((refl, refl), ((refl, refl), ((refl, refl), ((refl, refl), ((refl, refl), ((refl, refl), ((refl, refl), ((refl, refl), ((refl, refl), ((refl, refl), ((refl, refl), ((refl, refl), ((refl, refl), ((refl, refl), ((refl, refl), ((refl, refl), ((refl, refl), ((refl, refl), ((refl, refl), tt))))))))))))))))))))))))

abbrev listed : Rig → ℕ → Bool
listed r k = not (is_plain k) || names (both_lists r) k

all : (r : Rig) (item : Item) → is_plain (row_of item) ≡ true → names (both_lists r) (row_of item) ≡ true
unfolding is_plain
all r item e = second (not (is_plain (row_of item))) (names (both_lists r) (row_of item)) (ap not e) (below (listed r) items tt (row_of item) (row_lt item))

-- the items of the sensor are in every frame, as the register has them
abbrev InEvery : Rig → Item × ℕ → Type 0
InEvery r x = Plain r x × Carries r x

always : (n : ℕ) → eqb (n % 1) 0 ≡ true
always n = eq-eqb (n % 1) 0 (omega arith)

register_held : (r : Rig) (p : Order) → Each (InEvery r) (of_sensor p (pair_of p r.register))
unfolding is_plain
register_held r multiplexers = let c = always r.sending.next in (((refl, refl), c), (((refl, refl), c), (((refl, refl), c), tt)))
register_held r direction = let c = always r.sending.next in (((refl, refl), c), (((refl, refl), c), tt))
register_held r energy = let c = always r.sending.next in (((refl, refl), c), (((refl, refl), c), tt))

register_shown : (es : List Happening) (p : Order) → Each (Reads proved (rig_reached ours es)) (of_sensor p (pair_of p (rig_reached ours es).register))
register_shown es p =
    let r = rig_reached ours es in
    each {P = InEvery r} {Q = Reads proved r} (λ x h. carried es x h.0 h.1) (of_sensor p (pair_of p r.register)) (register_held r p)

-- a run in two parts
in_two : (r : Rig) (es fs : List Happening) → rig_after ours r (es ++ fs) ≡ rig_after ours (rig_after ours r es) fs
unfolding rig_after
in_two r [] fs = refl
in_two r (e ∷ es) fs = in_two (happened ours r e) es fs

before : (es fs : List Happening) (p : Order) → NoSpin fs
    → Each (Reads proved (rig_reached ours (es ++ fs))) (of_sensor p (pair_of p (rig_reached ours es).register))
before es fs p n =
    let r = rig_reached ours es in
    let e : (rig_reached ours (es ++ fs)).register ≡ r.register = ap (λ (q : Rig). q.register) (in_two start_rig es fs) ∙ register_laws.before r fs n in
    subst (λ (x : ℕ × ℕ). Each (Reads proved (rig_reached ours (es ++ fs))) (of_sensor p x)) (ap (pair_of p) e) (register_shown (es ++ fs) p)

after : (es : List Happening) (w : ℕ) (h : w < 0x10000) (p : Order) (head n : ℕ) (s : List ℕ) (fs gs : List Happening)
    → let r = rig_reached ours es in (given ours es).begun ≡ block head n s → orders ours p r w ≡ true
    → NoOrder ours p (ours.take r w).rig fs → NoSpin gs
    → Each (Reads proved (rig_reached ours (es ++ (word w h ∷ (fs ++ (spin ∷ gs)))))) (of_sensor p (asked_by p (get_or s 0 0) (get_or s 1 0)))
after es w h p head n s fs gs b o u v =
    let r = rig_reached ours es in
    let rest = word w h ∷ (fs ++ (spin ∷ gs)) in
    let held = run_laws.holds es ∙ ap held_as b in
    let e : pair_of p (rig_reached ours (es ++ rest)).register ≡ asked_by p (get_or s 0 0) (get_or s 1 0) =
    ap (λ (q : Rig). pair_of p q.register) (in_two start_rig es rest)
    ∙ register_laws.reaches r w h p fs gs o u v
    ∙ ap (asked_in p) held in
    subst (λ (x : ℕ × ℕ). Each (Reads proved (rig_reached ours (es ++ rest))) (of_sensor p x)) e (register_shown (es ++ rest) p)

pub shown_when : ShownWhen proved
shown_when =
    record {
      all = all;
      others = λ es. let r = rig_reached ours es in each {P = Plain r} {Q = λ x. Carries r x → Reads proved r x} (carried es) (at_once r) (others_held r);
      before = before;
      after = after;
    }
