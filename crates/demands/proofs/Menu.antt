-- The writer and the reader of a command's words give 02's numbers in 02's order: from the bounds of the settings, and from the laws of `wording`.
-- Assumes nothing.
use Rattle.std.specs.Prelude.{Ok, Err}
use mathlib.Core.Path.{◌≡◌, refl, ◌∙◌, ap}
use mathlib.Core.Bool.{Bool, true, false, not, ◌&&◌, ◌||◌}
use mathlib.Core.Logic.{◌⊎◌, inl, inr}
use mathlib.Core.List.{List, ◌++◌}
use Prim.Native.Nat.{ℕ, ◌+◌}
use native.Mathlib.Omega.{arith}
use lib.Dec.{ltb, leb}
use lib.ListN.{length, drop}
use borrow.Author.Tests.{lt-ltb, le-ltb, ltb-true, ltb-false, lt-leb, le-leb}
use Rattle.base.proofs.Cases.{split}
use Rattle.wording.specs.declared.Command.{Command}
use Rattle.wording.specs.declared.Command.TheVariants.{Relay, Iel, HeadMask, Target, Limit, Mode, Stepping, Multiplexers, DirectionWindow, EnergyWindow}
use Rattle.wording.specs.declared.Refusal.TheVariants.{TooWide, NoRoom, NotOne}
use Rattle.wording.specs.Shapes.{Meant}
use Rattle.wording.specs.Written.{fits, words_of, wrote_of, written_of}
use Rattle.wording.specs.Meaning.{read_of}
use Rattle.wording.specs.Laws.{OneSingle, OneBlock}
use Rattle.wording.proofs.Laws.{laws}
use Rattle.demands.specs.Orders.{first_in, wide, need, of_write, write_number, read_number}

-- below the next number is not above this one
over : (x m : ℕ) → ltb x (m + 1) ≡ not (ltb m x)
over x m =
    split (ltb m x)
    (λ e. let h = ltb-true m x e in le-ltb x (m + 1) (omega arith) ∙ rw e)
    (λ e. let h = ltb-false m x e in lt-ltb x (m + 1) (omega arith) ∙ rw e)

one_over : (t v : Bool) → t ≡ not v → (t && true) ≡ not v
one_over t true e = rw e
one_over t false e = rw e

two_over : (t u v w : Bool) → t ≡ not v → u ≡ not w → (t && (u && true)) ≡ not (v || w)
two_over t u true w e f = rw e
two_over t u false w e f = rw (e, f) (one_over (not w) w refl)

one : (x m : ℕ) → (ltb x (m + 1) && true) ≡ not (ltb m x)
one x m = one_over (ltb x (m + 1)) (ltb m x) (over x m)

two : (x m y n : ℕ) → (ltb x (m + 1) && (ltb y (n + 1) && true)) ≡ not (ltb m x || ltb n y)
two x m y n = two_over (ltb x (m + 1)) (ltb y (n + 1)) (ltb m x) (ltb n y) (over x m) (over y n)

fit_wide : (c : Command) → fits c ≡ not (wide c)
fit_wide (Relay on off) = two on 1 off 1
fit_wide (Iel clock enable) = two clock 1 enable 1
fit_wide (HeadMask mask) = one mask 7
fit_wide (Target x target) = one target 15
fit_wide (Limit x limit) = one limit 15
fit_wide (Mode low) = one low 255
fit_wide (Stepping x low) = one low 255
fit_wide (Multiplexers byte bit) = two byte 255 bit 1
fit_wide (DirectionWindow start stop) = two start 31 stop 31
fit_wide (EnergyWindow start stop) = two start 31 stop 31

need_words : (c : Command) → length (words_of c) ≡ need c
need_words (Relay on off) = refl
need_words (Iel clock enable) = refl
need_words (HeadMask mask) = refl
need_words (Target x target) = refl
need_words (Limit x limit) = refl
need_words (Mode low) = refl
need_words (Stepping x low) = refl
need_words (Multiplexers byte bit) = refl
need_words (DirectionWindow start stop) = refl
need_words (EnergyWindow start stop) = refl

-- the three outcomes of a write
module _ (c : Command) (out : List ℕ) where
  too_wide : wide c ≡ true → (wrote_of c (length out) ≡ Err TooWide) × (written_of c out ≡ out)
  unfolding wrote_of written_of
  too_wide w = let f : fits c ≡ false = fit_wide c ∙ ap not w in (rw f, rw f)

  no_room_lem : wide c ≡ false → ltb (length out) (need c) ≡ true → (wrote_of c (length out) ≡ Err NoRoom) × (written_of c out ≡ out)
  unfolding wrote_of written_of
  no_room_lem w r =
      let f : fits c ≡ true = fit_wide c ∙ ap not w in
      let l = ltb-true (length out) (need c) r in
      let e : leb (need c) (length out) ≡ false = lt-leb (need c) (length out) l in
      (rw (f, need_words c, e), rw (f, need_words c, e))

  put : wide c ≡ false → ltb (length out) (need c) ≡ false
      → (wrote_of c (length out) ≡ Ok (need c)) × (written_of c out ≡ words_of c ++ drop (need c) out)
  unfolding wrote_of written_of
  put w r =
      let f : fits c ≡ true = fit_wide c ∙ ap not w in
      let l = ltb-false (length out) (need c) r in
      let e : leb (need c) (length out) ≡ true = le-leb (need c) (length out) l in
      (rw (f, need_words c, e), rw (f, need_words c, e))

  pub write_order : write_number (wrote_of c (length out)) ≡ first_in (of_write c out)
  write_order =
      split (wide c) (λ w. rw ((too_wide w).0, w))
      (λ w. split (ltb (length out) (need c)) (λ r. rw ((no_room_lem w r).0, w, r)) (λ r. rw ((put w r).0, w, r)))

  pub write_untouched : (write_number (wrote_of c (length out)) ≡ 0 → ⊥) → written_of c out ≡ out
  write_untouched n =
      split (wide c) (λ w. (too_wide w).1)
      (λ w. split (ltb (length out) (need c)) (λ r. (no_room_lem w r).1) (λ r. absurd (n (ap write_number (put w r).0))))

  pub write_put : write_number (wrote_of c (length out)) ≡ 0 → (wrote_of c (length out) ≡ Ok (need c)) × (written_of c out ≡ words_of c ++ drop (need c) out)
  write_put z =
      split (wide c) (λ w. absurd (let e : ◌≡◌ {A = ℕ} 25 0 = cc (ap write_number (too_wide w).0, z) in omega arith))
      (λ w. split (ltb (length out) (need c))
      (λ r. absurd (let e : ◌≡◌ {A = ℕ} 26 0 = cc (ap write_number (no_room_lem w r).0, z) in omega arith)) (put w))

-- words that are not one command are told by 38, and the others by no number
module _ (ws : List ℕ) where
  pub read_none : (OneSingle ws → ⊥) → (OneBlock ws → ⊥) → read_number (read_of ws) ≡ 38
  read_none s b = ap read_number (laws.is_none ws s b)

  not_refused : OneSingle ws ⊎ OneBlock ws → read_of ws ≡ Err NotOne → ⊥
  not_refused (inl s) e = (laws.not_one ws e).0 s
  not_refused (inr b) e = (laws.not_one ws e).1 b

  told : OneSingle ws ⊎ OneBlock ws → (m : Meant) → read_of ws ≡ m → read_number m ≡ 0
  told o (Ok c) e = refl
  told o (Err why) e = absurd (not_refused o (e ∙ ap Err (laws.no_other ws why e)))

  pub read_some : OneSingle ws ⊎ OneBlock ws → read_number (read_of ws) ≡ 0
  read_some o = told o (read_of ws) refl
