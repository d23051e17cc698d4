-- The laws of the sensor's register (specs/Register) are true of ours: a run with no spin is an induction over its happenings.
-- Assumes nothing.
use mathlib.Core.Path.{◌≡◌, refl, ap, ◌∙◌}
use mathlib.Core.List.{List, [], ◌∷◌, ◌++◌}
use mathlib.Core.Bool.{Bool, true}
use Prim.Native.Nat.{ℕ, ◌<◌}
use Rattle.base.specs.Pick.{pick}
use Rattle.rig.specs.declared.Rig.{Rig}
use Rattle.rig.specs.Words.{take_of}
use Rattle.power.specs.Power.{spun_of, set_of}
use Rattle.laws.specs.Ordered.{Order, pair_of, asked_in}
use Rattle.laws.specs.Runs.{Happening, word, spin, set, cut, frame, ours, happened, rig_after}
use Rattle.laws.specs.Register.{ordered_in, orders, Unspun, Unordered, NoSpin, NoOrder, RegisterLaws}
use Rattle.laws.proofs.Replies.{reply_laws, ordered_word}

still : (r : Rig) (e : Happening) → Unspun e → (happened ours r e).register ≡ r.register
unfolding set_of
still r (word w h) u = (reply_laws.apart r w).register
still r spin u = absurd u
still r (set s h) u = refl
still r cut u = absurd u
still r frame u = refl

before : (r : Rig) (es : List Happening) → NoSpin es → (rig_after ours r es).register ≡ r.register
unfolding rig_after
before r [] n = refl
before r (e ∷ es) n = before (happened ours r e) es n.1 ∙ still r e n.0

-- what was ordered by a block stays so while no other of its code is accepted
keeps : (p : Order) (r : Rig) (e : Happening) → Unspun e → Unordered ours p r e → pair_of p (ordered_in (happened ours r e)) ≡ pair_of p (ordered_in r)
unfolding set_of
keeps p r (word w h) u n =
    ordered_word r w p ∙ ap (λ (b : Bool). pick b (asked_in p r.pending) (pair_of p (ordered_in r))) n
keeps p r spin u n = absurd u
keeps p r (set s h) u n = refl
keeps p r cut u n = absurd u
keeps p r frame u n = refl

-- then a spin copies it, and the register keeps it
reached : (p : Order) (r : Rig) (fs gs : List Happening) → NoOrder ours p r fs → NoSpin gs
    → pair_of p (rig_after ours r (fs ++ (spin ∷ gs))).register ≡ pair_of p (ordered_in r)
unfolding rig_after
reached p r [] gs n u = ap (pair_of p) (before (spun_of r) gs u)
reached p r (e ∷ fs) gs n u = reached p (happened ours r e) fs gs n.2 u ∙ keeps p r e n.0 n.1

reaches : (r : Rig) (w : ℕ) (h : w < 0x10000) (p : Order) (fs gs : List Happening) → orders ours p r w ≡ true
    → NoOrder ours p (take_of r w).rig fs → NoSpin gs
    → pair_of p (rig_after ours r (word w h ∷ (fs ++ (spin ∷ gs)))).register ≡ asked_in p r.pending
unfolding rig_after
reaches r w h p fs gs o n u =
    reached p (take_of r w).rig fs gs n u
    ∙ ordered_word r w p
    ∙ ap (λ (b : Bool). pick b (asked_in p r.pending) (pair_of p (ordered_in r))) o

pub register_laws : RegisterLaws ours
register_laws =
    record {
      still = still;
      before = before;
      copied = λ r. (refl, refl);
      cleared = λ r. (refl, refl);
      start = (refl, refl);
      ordered = ordered_word;
      reaches = reaches;
    }
