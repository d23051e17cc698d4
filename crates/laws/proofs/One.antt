-- The laws of the rows and of the replies leave one function of rigs and words (specs/Rows, OneTake): by the word's kind and code.
-- Assumes nothing.
use Prim.Native.Nat.{ℕ, ◌/◌, ◌%◌, ◌<◌}
use mathlib.Core.Path.{◌≡◌, refl, ap, sym, ◌∙◌}
use mathlib.Core.Logic.{inl, inr}
use native.Mathlib.Omega.{arith}
use lib.Dec.{eqb, ltb}
use borrow.Author.Tests.{eqb-true, eqb-false, ltb-true, ltb-false}
use Rattle.base.proofs.Cases.{split}
use Rattle.judge.specs.declared.Which.TheVariants.{Stop, Start, Deflection}
use Rattle.rig.specs.declared.Kind.{Kind}
use Rattle.rig.specs.declared.Kind.TheVariants.{Single, Head, Data, End}
use Rattle.rig.specs.declared.Pending.{Pending}
use Rattle.rig.specs.declared.Rig.{Rig}
use Rattle.rig.specs.declared.Taken.{Taken}
use Rattle.rig.specs.Words.{high_of, kind_of}
use Rattle.laws.specs.Results.{dropped_rig}
use Rattle.laws.specs.Replies.{afterwards, ReplyLaws}
use Rattle.laws.specs.Rows.{single, Idle, Waits, ExactlyOne, Unlisted, RowLaws, OneTake}
use Rattle.laws.proofs.Tests.{by_option}
use Rattle.laws.proofs.WordKinds.{IsKind, kind_of_lem}

-- two things told by the one x of a table are one
agree : {A : Type 0} {P : A → Type 0} {f : A → Taken} {s t : Taken} → ExactlyOne P (λ x. s ≡ f x) → ExactlyOne P (λ x. t ≡ f x) → s ≡ t
agree {f = f} a b = a.then ∙ ap f (b.alone a.one a.is) ∙ sym b.then

module _ (take other : Rig → ℕ → Taken) (mine : RowLaws take) (yours : RowLaws other) where
  -- a single, by its code
  singles : (r : Rig) (code low : ℕ) → code < 64 → low < 256 → Idle r → take r (single code low) ≡ other r (single code low)
  singles r code low h l i =
      split (eqb code 0x08) (λ e. rw (eqb-true code 0x08 e) (agree (mine.relay08 r low l i) (yours.relay08 r low l i))) (λ n08.
      split (eqb code 0x0C) (λ e. rw (eqb-true code 0x0C e) (agree (mine.iel_0c r low l i) (yours.iel_0c r low l i))) (λ n0C.
      split (eqb code 0x20) (λ e. rw (eqb-true code 0x20 e) (agree (mine.target Start r low l i) (yours.target Start r low l i))) (λ n20.
      split (eqb code 0x21) (λ e. rw (eqb-true code 0x21 e) (agree (mine.limit Start r low l i) (yours.limit Start r low l i))) (λ n21.
      split (eqb code 0x22) (λ e. rw (eqb-true code 0x22 e) (agree (mine.stepping Deflection r low l i) (yours.stepping Deflection r low l i))) (λ n22.
      split (eqb code 0x23) (λ e. rw (eqb-true code 0x23 e) (agree (mine.target Deflection r low l i) (yours.target Deflection r low l i))) (λ n23.
      split (eqb code 0x24) (λ e. rw (eqb-true code 0x24 e) (agree (mine.limit Deflection r low l i) (yours.limit Deflection r low l i))) (λ n24.
      split (eqb code 0x26) (λ e. rw (eqb-true code 0x26 e) (agree (mine.mask26 r low l i) (yours.mask26 r low l i))) (λ n26.
      split (eqb code 0x28) (λ e. rw (eqb-true code 0x28 e) (agree (mine.target Stop r low l i) (yours.target Stop r low l i))) (λ n28.
      split (eqb code 0x29) (λ e. rw (eqb-true code 0x29 e) (agree (mine.limit Stop r low l i) (yours.limit Stop r low l i))) (λ n29.
      split (eqb code 0x2B) (λ e. rw (eqb-true code 0x2B e) (agree (mine.mode_2b r low l i) (yours.mode_2b r low l i))) (λ n2B.
      split (eqb code 0x2C) (λ e. rw (eqb-true code 0x2C e) (agree (mine.stepping Start r low l i) (yours.stepping Start r low l i))) (λ n2C.
      split (eqb code 0x2D) (λ e. rw (eqb-true code 0x2D e) (agree (mine.stepping Stop r low l i) (yours.stepping Stop r low l i))) (λ n2D.
      let u : Unlisted code = record { not08 = eqb-false _ _ n08; not_0c = eqb-false _ _ n0C; not20 = eqb-false _ _ n20; not21 = eqb-false _ _ n21; not22 = eqb-false _ _ n22; not23 = eqb-false _ _ n23; not24 = eqb-false _ _ n24; not26 = eqb-false _ _ n26; not28 = eqb-false _ _ n28; not29 = eqb-false _ _ n29; not_2b = eqb-false _ _ n2B; not_2c = eqb-false _ _ n2C; not_2d = eqb-false _ _ n2D } in
      mine.unknown r code low h l i u ∙ sym (yours.unknown r code low h l i u))))))))))))))

  -- with nothing pending
  idle : (r : Rig) (w : ℕ) (k : Kind) → Idle r → IsKind (w / 0x4000) k → take r w ≡ other r w
  idle r w Single i e =
      let f : w ≡ single (w / 256) (w % 256) = omega arith in
      rw f (singles r (w / 256) (w % 256) (omega arith) (omega arith) i)
  idle r w Head i e =
      split (ltb 79 (w % 256))
      (λ l. let h = ltb-true 79 (w % 256) l in mine.long r w i e h ∙ sym (yours.long r w i e h))
      (λ l. let h = ltb-false 79 (w % 256) l in mine.waits r w i e h ∙ sym (yours.waits r w i e h))
  idle r w Data i e = mine.stray_data r w i e ∙ sym (yours.stray_data r w i e)
  idle r w End i e = mine.stray_end r w i e ∙ sym (yours.stray_end r w i e)

  -- a word judged afresh after a drop, which leaves nothing pending
  afresh : ReplyLaws take → ReplyLaws other → (r : Rig) (w : ℕ) (k : Kind) (p : Pending) → Waits r p → IsKind (w / 0x4000) k → w / 0x4000 < 2 → take r w ≡ other r w
  afresh a b r w k p m e h =
      a.afresh r w p m h
      ∙ ap (λ (t : Taken). record { rig = t.rig; reply = afterwards t.reply }) (idle (dropped_rig r p.head) w k refl e)
      ∙ sym (b.afresh r w p m h)

  -- with a block pending
  waiting : ReplyLaws take → ReplyLaws other → (r : Rig) (w : ℕ) (k : Kind) (p : Pending) → Waits r p → IsKind (w / 0x4000) k → take r w ≡ other r w
  waiting a b r w Single p m e = afresh a b r w Single p m e (omega arith)
  waiting a b r w Head p m e = afresh a b r w Head p m e (omega arith)
  waiting a b r w Data p m e =
      split (eqb (w / 256 % 64) (p.head % 64))
      (λ c.
      let s = eqb-true _ _ c in
      split (ltb p.got p.n)
      (λ l. let h = ltb-true _ _ l in mine.kept r w p m e s h ∙ sym (yours.kept r w p m e s h))
      (λ l. let h = ltb-false _ _ l in mine.swallowed_data r w p m e (inr h) ∙ sym (yours.swallowed_data r w p m e (inr h))))
      (λ c. let n = eqb-false _ _ c in mine.swallowed_data r w p m e (inl n) ∙ sym (yours.swallowed_data r w p m e (inl n)))
  waiting a b r w End p m e =
      split (eqb (w / 256 % 64) (p.head % 64))
      (λ c.
      let s = eqb-true _ _ c in
      split (eqb p.got p.n)
      (λ l. let h = eqb-true _ _ l in agree (mine.closed r w p m e s h) (yours.closed r w p m e s h))
      (λ l. let h = eqb-false _ _ l in mine.swallowed_end r w p m e (inr h) ∙ sym (yours.swallowed_end r w p m e (inr h))))
      (λ c. let n = eqb-false _ _ c in mine.swallowed_end r w p m e (inl n) ∙ sym (yours.swallowed_end r w p m e (inl n)))

pub one_take : OneTake
one_take take other mine a yours b r w =
    let k = kind_of (high_of w) in
    let e = kind_of_lem w k refl in
    by_option r.pending (λ i. idle take other mine yours r w k i e) (λ p m. waiting take other mine yours a b r w k p m e)
