-- What the table of rows keeps in every row: computed over the table, used at each row.
-- Assumes nothing.
use mathlib.Core.Path.{◌≡◌, refl, sym, ap, subst, ◌∙◌}
use mathlib.Core.Bool.{Bool, true, false, true≢false}
use Prim.Native.Nat.{ℕ, ◌%◌, ◌<◌}
use native.Mathlib.Nat.{dvd_of_mod-eq-zero, mod-mod_of_dvd}
use lib.ListN.{get_or}
use lib.Dec.{T, eqb, ltb, eqb→eq, ltb→lt}
use borrow.Author.Tests.{eqb-true, ltb-true, lt-ltb}
use Rattle.base.specs.Pick.{pick}
use Rattle.base.proofs.Cases.{split}
use Rattle.base.proofs.Table.{below, is_true}
use Rattle.frame.proofs.Each.{From, each}
use Rattle.frame.specs.declared.Item.{Item}
use Rattle.frame.specs.declared.Item.TheVariants.{Parallel, Multiplexer1, Multiplexer2, Multiplexer3, ErrorCode, DirectionStop, DirectionStart, EnergyStop, EnergyStart, LastInvalidCode, IelEnable, ReducedCounter, Bias, Relay, Ground, StopStepping, StopLimit, StopLevel, Flap1, Flap2, Flap3, IelClock, LastCheck, InvalidCount, HeadMask, LongCounter, FreeTime, StartStepping, StartLimit, StartLevel, DeflectionStepping, DeflectionLimit, DeflectionLevel}
use Rattle.frame.specs.Items.{items, row_of, all_items}
use Rattle.frame.specs.Read.{byte_of, div_of, rem_of, period_of, born_of, is_plain}

module _ (k : ℕ) (h : k < items) where
  pub byte_lt : byte_of k < 39
  byte_lt = ltb→lt _ _ (below (λ (j : ℕ). ltb (byte_of j) 39) items tt k h)

  pub div_pos : 0 < div_of k
  div_pos = ltb→lt _ _ (below (λ (j : ℕ). ltb 0 (div_of j)) items tt k h)

  pub rem_pos : 0 < rem_of k
  rem_pos = ltb→lt _ _ (below (λ (j : ℕ). ltb 0 (rem_of j)) items tt k h)

  pub period_pos : 0 < period_of k
  period_pos = ltb→lt _ _ (below (λ (j : ℕ). ltb 0 (period_of j)) items tt k h)

  -- the 32 indices are whole rounds of each period
  pub rounds : (i : ℕ) → i % 32 % period_of k ≡ i % period_of k
  rounds i =
      mod-mod_of_dvd (period_of k) i (dvd_of_mod-eq-zero _ (eqb→eq _ _ (below (λ (j : ℕ). eqb (32 % period_of j) 0) items tt k h)))

-- a plain item has a row, and its one frame is 0 slots old
pub plain_lt : (k : ℕ) → is_plain k ≡ true → k < items
unfolding is_plain
plain_lt k p =
    split (ltb k items) (ltb-true k items) (λ f. absurd (true≢false (sym p ∙ ap (λ (b : Bool). pick b (eqb (born_of k) 0) false) f)))

pub plain_born : (k : ℕ) → is_plain k ≡ true → born_of k ≡ 0
unfolding is_plain
plain_born k p = eqb-true _ _ (sym (ap (λ (b : Bool). pick b (eqb (born_of k) 0) false) (lt-ltb _ _ (plain_lt k p))) ∙ p)

-- P at every plain row, from a proof for each row, one by one; a spread number's is `spread`
pub each_plain : (P : ℕ → Type 0) → From (λ k. is_plain k ≡ true → P k) 0 items → (k : ℕ) → is_plain k ≡ true → P k
each_plain P a k p = each (λ k. is_plain k ≡ true → P k) items a k (plain_lt k p) p

pub spread : {A : Type 0} → false ≡ true → A
spread e = absurd (true≢false (sym e))

-- P at every row that is not plain: those of the two spread numbers
abbrev either : ℕ → Bool
either j = pick (is_plain j) true (pick (eqb j (row_of LongCounter)) true (eqb j (row_of FreeTime)))

each_row : (k : ℕ) → k < items → either k ≡ true
unfolding is_plain
each_row k h = is_true (either k) (below (λ (j : ℕ). either j) items tt k h)

pub spread_rows : (P : ℕ → Type 0) → P (row_of LongCounter) → P (row_of FreeTime) → (k : ℕ) → k < items → is_plain k ≡ false → P k
spread_rows P long free k h n =
    split (eqb k (row_of LongCounter)) (λ p. subst P (sym (eqb-true _ _ p)) long)
    (λ p. split (eqb k (row_of FreeTime)) (λ q. subst P (sym (eqb-true _ _ q)) free) (λ q. absurd (true≢false (sym (each_row k h) ∙ rw (n, p, q)))))

-- every item has a row, and stands in the list there
abbrev pub item_at : ℕ → Item
item_at k = get_or all_items k Parallel

item_test : (x : Item) → T (ltb (row_of x) items) × (item_at (row_of x) ≡ x)
item_test Parallel = (tt, refl)
item_test Multiplexer1 = (tt, refl)
item_test Multiplexer2 = (tt, refl)
item_test Multiplexer3 = (tt, refl)
item_test ErrorCode = (tt, refl)
item_test DirectionStop = (tt, refl)
item_test DirectionStart = (tt, refl)
item_test EnergyStop = (tt, refl)
item_test EnergyStart = (tt, refl)
item_test LastInvalidCode = (tt, refl)
item_test IelEnable = (tt, refl)
item_test ReducedCounter = (tt, refl)
item_test Bias = (tt, refl)
item_test Relay = (tt, refl)
item_test Ground = (tt, refl)
item_test StopStepping = (tt, refl)
item_test StopLimit = (tt, refl)
item_test StopLevel = (tt, refl)
item_test Flap1 = (tt, refl)
item_test Flap2 = (tt, refl)
item_test Flap3 = (tt, refl)
item_test IelClock = (tt, refl)
item_test LastCheck = (tt, refl)
item_test InvalidCount = (tt, refl)
item_test HeadMask = (tt, refl)
item_test LongCounter = (tt, refl)
item_test FreeTime = (tt, refl)
item_test StartStepping = (tt, refl)
item_test StartLimit = (tt, refl)
item_test StartLevel = (tt, refl)
item_test DeflectionStepping = (tt, refl)
item_test DeflectionLimit = (tt, refl)
item_test DeflectionLevel = (tt, refl)

pub item_at_lem : (x : Item) → item_at (row_of x) ≡ x
item_at_lem x = (item_test x).1

pub row_lt : (x : Item) → row_of x < items
row_lt x = ltb→lt _ _ (item_test x).0

-- what holds in both rows that are not plain holds of each item that is not
pub spread_items : (P : Item → Type 0) → P LongCounter → P FreeTime → (x : Item) → is_plain (row_of x) ≡ false → P x
spread_items P long free x n = subst P (item_at_lem x) (spread_rows (λ k. P (item_at k)) long free (row_of x) (row_lt x) n)

-- every item but those two is plain
pub plain_items : (x : Item) → (x ≡ LongCounter → ⊥) → (x ≡ FreeTime → ⊥) → is_plain (row_of x) ≡ true
plain_items x a b = split (is_plain (row_of x)) (λ t. t) (λ f. absurd (spread_items (λ y. y ≡ x → ⊥) (λ e. a (sym e)) (λ e. b (sym e)) x f refl))
