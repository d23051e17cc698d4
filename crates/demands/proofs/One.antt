-- The history of slots leaves one thing to be shown, demand 3 one desk, and demands 1 and 2 one rig and one hearing of all bytes.
-- Assumes nothing.
use Rattle.std.specs.Prelude.{Option, Some, None, Ok}
use mathlib.Core.Path.{◌≡◌, refl, ◌∙◌, ap, sym, subst}
use mathlib.Core.List.{List, [], ◌∷◌, ◌++◌}
use mathlib.Core.Logic.{◌⊎◌, inl, inr, ⊎_elim}
use Prim.Native.Nat.{ℕ, ◌+◌, ◌-◌, ◌<◌, min}
use native.Mathlib.Decide.{ℕ_discrete}
use native.Mathlib.Omega.{arith}
use lib.Dec.{ltb}
use lib.ListN.{length, take, drop}
use borrow.Author.Tests.{ltb-true, ltb-false}
use Rattle.base.specs.declared.Spins.{Spins}
use Rattle.base.specs.Counts.{frames, ceiling}
use Rattle.base.proofs.Cases.{split}
use Rattle.supply.specs.declared.Supply.{Supply}
use Rattle.supply.specs.Rules.{with_level, stepped}
use Rattle.supply.specs.Laws.{SpinMoves}
use Rattle.frame.specs.declared.Item.{Item}
use Rattle.frame.specs.declared.Item.TheVariants.{LongCounter, FreeTime}
use Rattle.frame.specs.Items.{row_of}
use Rattle.frame.specs.Read.{index_of, is_plain, carries, born_of}
use Rattle.frame.proofs.Rows.{spread_items}
use Rattle.frame.specs.Laws.{byte39}
use Rattle.desk.specs.declared.Desk.{Desk}
use Rattle.half.specs.Shapes.{Half}
use Rattle.desk.specs.declared.Answer.{Answer}
use Rattle.cell.specs.Shapes.{Shown, known}
use Rattle.desk.specs.declared.Received.{Received}
use Rattle.desk.specs.Laws.{answered}
use Rattle.judge.specs.declared.Sensor.{Sensor}
use Rattle.judge.specs.declared.Settings.{Settings}
use Rattle.judge.specs.declared.Which.{Which}
use Rattle.judge.specs.declared.Which.TheVariants.{Stop, Start, Deflection}
use Rattle.judge.specs.declared.Core.{Core}
use Rattle.judge.specs.Records.{supply_at}
use Rattle.rig.specs.declared.Faults.{Faults}
use Rattle.rig.specs.declared.Pending.{Pending}
use Rattle.rig.specs.declared.Panel.{Panel}
use Rattle.rig.specs.declared.Sending.{Sending}
use Rattle.rig.specs.declared.Rig.{Rig}
use Rattle.rig.specs.Words.{take_of}
use Rattle.power.specs.declared.PanelSetting.{PanelSetting}
use Rattle.power.specs.Power.{stepped_all, spun_of, set_of}
use Rattle.sending.specs.Sending.{sent}
use Rattle.laws.specs.Runs.{Spun, SetMoves, SentMoves}
use Rattle.laws.proofs.Runs.{panel_is}
use Rattle.laws.proofs.Replies.{reply_laws}
use Rattle.laws.proofs.Rows.{row_laws}
use Rattle.laws.proofs.One as laws
use Rattle.demands.specs.History.{Slot, missed, whole, Brings, Told, not_yet, latest}
use Rattle.demands.specs.Outfit.{Outfit, proved, fill_c0, fill_ff}
use Rattle.demands.specs.Queue.{Line, Alone, word, spin, set, cut, no_room, Step, alone, built, came, gone, idle, torn, moved, steps}
use Rattle.demands.specs.AnyDesk.{IsWhole, older, completed, replaced, half_by, SlotLaws}
use Rattle.demands.specs.Demand1.{Demand1For}
use Rattle.demands.specs.Demand2.{Demand2For}
use Rattle.demands.specs.Demand3.{Demand3For, reached}
use Rattle.demands.specs.One.{desk_of, OneTold, OneDesk, OneRig, Came, bytes, miss, all_come, OneHearing}
use Rattle.demands.proofs.Shown.{brings_is}
use Rattle.demands.proofs.AnyDesk.{slot_laws}
use Rattle.demands.proofs.Demand1.{demand_1}
use Rattle.demands.proofs.Demand3.{demand_3}

-- the value that is shown, if one is
abbrev pub value_in : Shown → ℕ
value_in None = 0
value_in (Some k) = k.value

-- what is brought at one place is one value
one_value : (k v u : ℕ) (h : List Slot) → Brings k v h → Brings k u h → v ≡ u
one_value k v u h p q =
    let e : known v (frames (born_of k)) ≡ known u (frames (born_of k)) = sym (brings_is k v h p) ∙ brings_is k u h q in
    ap value_in e

same_place : (k i j v u : ℕ) (h : List Slot) → i ≡ j → Brings k v (drop i h) → Brings k u (drop j h)
    → known v (frames (min ceiling (i + born_of k))) ≡ known u (frames (min ceiling (j + born_of k)))
same_place k i j v u h e p q =
    let f : v ≡ u = one_value k v u (drop j h) (subst (λ (x : ℕ). Brings k v (drop x h)) e p) q in
    cc (e, f)

pub one_told : OneTold
one_told k h s t (not_yet n) (not_yet m) = refl
one_told k h s t (not_yet n) (latest j v b m) = absurd (n j v b)
one_told k h s t (latest j v b m) (not_yet n) = absurd (n j v b)
one_told k h s t (latest i v b m) (latest j u c n) =
    elim (ℕ_discrete i j) [
      | yes e ↦ same_place k i j v u h e b c
      | no ne ↦ absurd (apart (λ (l : i < j). n i v l b) (λ (l : j < i). m j u l c) ne)
    ]
  where
    apart : (i < j → ⊥) → (j < i → ⊥) → (i ≡ j → ⊥) → ⊥
    apart f g e = e (omega (arith, f, g))

module _ (fresh : Desk) (slot : Desk → List ℕ → Received) (lose : Desk → Desk) (look : Desk → Item → Shown) where
  abbrev O : Outfit
  O = desk_of fresh slot lose look

  abbrev L : Rig → Desk → List Slot → List Rig → Line
  L r d h w = record { rig = r; desk = d; past = h; way = w }

  -- what happens to the rig alone does not depend on the desk
  same_moved : (r : Rig) (e : Alone) → moved O r e ≡ moved proved r e
  same_moved r (word x h) = refl
  same_moved r spin = refl
  same_moved r (set s h) = refl
  same_moved r cut = refl
  same_moved r (no_room b at h) = refl

  -- nor does the history
  same_past : (ss : List Step) (r : Rig) (d e : Desk) (h : List Slot) (w : List Rig) → (steps O (L r d h w) ss).past ≡ (steps proved (L r e h w) ss).past
  unfolding steps
  same_past [] r d e h w = refl
  same_past (alone x ∷ ss) r d e h w =
      ap (λ (q : Rig). (steps O (L q d h w) ss).past) (same_moved r x) ∙ same_past ss (moved proved r x) d e h w
  same_past (built ∷ ss) r d e h w = same_past ss (sent r) d e h _
  same_past (came ∷ ss) r d e h [] = same_past ss r d e h []
  same_past (came ∷ ss) r d e h (q ∷ w) = same_past ss r _ _ (whole q ∷ h) w
  same_past (gone x ∷ ss) r d e h [] = same_past ss r d e h []
  same_past (gone x ∷ ss) r d e h (q ∷ w) = same_past ss r _ _ (missed ∷ h) w
  same_past (idle x ∷ ss) r d e h w = same_past ss r _ _ (missed ∷ h) w
  same_past (torn f n ∷ ss) r d e h w = same_past ss r _ _ h w

  shows_ours : Demand3For O → (ss : List Step) (item : Item) → look (reached O ss).desk item ≡ proved.look (reached proved ss).desk item
  shows_ours m ss item =
      one_told (row_of item) (reached proved ss).past _ _
      (subst (λ (h : List Slot). Told (row_of item) h (look (reached O ss).desk item)) (same_past ss proved.rig.start fresh proved.fresh [] []) (m.shown ss item))
      (demand_3.shown ss item)

pub one_desk : OneDesk
one_desk fresh slot lose look m ss item = shows_ours fresh slot lose look m ss item

-- one supply after a spin
level_is : (s n : Supply) → SpinMoves s n → n ≡ stepped s
level_is s n m =
    split s.relay (λ r.
    split s.stepping (λ t.
    split (ltb s.level s.target)
    (λ a. let e : stepped s ≡ with_level s (s.level + 1) = rw (r, t, a) refl in m.alone ∙ ap (with_level s) (m.up r t (ltb-true _ _ a)) ∙ sym e)
    (λ a.
    split (ltb s.target s.level)
    (λ b.
    let e : stepped s ≡ with_level s (s.level - 1) = rw (r, t, a, b) refl in
    let f : n.level ≡ s.level - 1 = let d = m.down r t (ltb-true _ _ b) in omega arith in
    m.alone ∙ ap (with_level s) f ∙ sym e)
    (λ b.
    let e : s.level ≡ s.target = let x = ltb-false s.level s.target a in let y = ltb-false s.target s.level b in omega arith in
    let f : stepped s ≡ s = rw (r, t, a, b) refl in
    m.still (inr (inr e)) ∙ sym f)))
    (λ t. let e : stepped s ≡ s = rw (r, t) refl in m.still (inr (inl t)) ∙ sym e))
    (λ r. let e : stepped s ≡ s = rw r refl in m.still (inl r) ∙ sym e)

-- a core is its parts,
cored : Supply → Supply → Supply → Settings → Core
cored a b c d = record { stop = a; start = b; deflection = c; settings = d }

same_cored : {a i b j c k : Supply} {d l : Settings} → a ≡ i → b ≡ j → c ≡ k → d ≡ l → cored a b c d ≡ cored i j k l
same_cored p q r s = cc

core_is : (c d : Core) → c.stop ≡ d.stop → c.start ≡ d.start → c.deflection ≡ d.deflection → c.settings ≡ d.settings → c ≡ d
unfolding cored
core_is c d p q r s = same_cored p q r s

-- and a rig is
made : Core → Sensor → Faults → Option Pending → ℕ → Panel → Sending → Spins → Rig
made a x c d e f g h = record { core = a; register = x; faults = c; pending = d; check = e; panel = f; sending = g; edbs = h }

same_made : {a i : Core} {x y : Sensor} {c k : Faults} {d l : Option Pending} {e m : ℕ} {f n : Panel} {g o : Sending} {h p : Spins}
    → a ≡ i → x ≡ y → c ≡ k → d ≡ l → e ≡ m → f ≡ n → g ≡ o → h ≡ p → made a x c d e f g h ≡ made i y k l m n o p
same_made q z s t u v w x = cc

parts_are : (r q : Rig) → q.core ≡ r.core → q.register ≡ r.register → q.faults ≡ r.faults → q.pending ≡ r.pending
    → q.check ≡ r.check → q.panel ≡ r.panel → q.sending ≡ r.sending → q.edbs ≡ r.edbs → q ≡ r
unfolding made
parts_are r q a x c d e f g h = same_made a x c d e f g h

spin_is : (r q : Rig) → Spun r q → q ≡ spun_of r
spin_is r q m =
    let level : (x : Which) → supply_at q.core x ≡ stepped (supply_at r.core x) = λ x. level_is (supply_at r.core x) (supply_at q.core x) (m.supply x) in
    parts_are (spun_of r) q (core_is q.core (stepped_all r.core) (level Stop) (level Start) (level Deflection) m.settings) m.register m.faults m.pending m.check
    m.panel m.sending m.edbs

set_is : (r : Rig) (s : PanelSetting) (q : Rig) → SetMoves r s q → q ≡ set_of r s
unfolding set_of
set_is r s q m =
    let k = m.kept in
    parts_are (set_of r s) q k.core k.register k.faults k.pending k.check
    (m.panel ∙ sym (panel_is r.panel s)) m.sending k.edbs

sends : ℕ → ℕ → Sending
sends i l = record { next = i; latch = l }

same_sends : {i j l m : ℕ} → i ≡ j → l ≡ m → sends i l ≡ sends j m
same_sends p q = cc

sent_is : (r q : Rig) → SentMoves r q → q ≡ sent r
unfolding sends
sent_is r q m =
    let k = m.kept in
    parts_are (sent r) q k.core k.register k.faults k.pending k.check
    m.panel (same_sends m.next m.latch) k.edbs

pub one_rig : OneRig
one_rig o one two =
    let frame = two.frame in
    record {
      start = two.start;
      take = λ r w. laws.one_take o.rig.take take_of two.rows one.words row_laws reply_laws r w;
      spin = λ r. spin_is r (o.rig.spin r) (two.runs.spin r);
      set = λ r s. set_is r s (o.rig.set r s) (two.runs.set r s);
      cut = λ r. two.runs.cut r ∙ two.start;
      sent = λ r. sent_is r (o.rig.sent r) (two.runs.sent r);
      frame = frame;
      build = λ r b at.
          split (ltb (length b) (at + 40))
          (λ t. let h = ltb-true _ _ t in (one.room18 r b at h).0 ∙ sym (demand_1.room18 r b at h).0)
          (λ t.
          let h = ltb-false _ _ t in
          (one.room r b at h).0 ∙ ap (λ (q : Rig). record { rig = q; wrote = Ok tt }) (sent_is r (o.rig.sent r) (two.runs.sent r)) ∙ sym (demand_1.room r b at h).0);
      filled = λ r b at.
          split (ltb (length b) (at + 40))
          (λ t. let h = ltb-true _ _ t in (one.room18 r b at h).1 ∙ sym (demand_1.room18 r b at h).1)
          (λ t.
          let h = ltb-false _ _ t in
          (one.room r b at h).1 ∙ ap (λ (f : List ℕ). take at b ++ (f ++ drop (at + 40) b)) (two.frame r) ∙ sym (demand_1.room r b at h).1);
    }

-- what 40 bytes, or any others, are
data Sort (f : List ℕ) : Type 0 where
  other : (length f ≡ 40 → ⊥) → Sort f
  fill : (f ≡ fill_c0) ⊎ (f ≡ fill_ff) → Sort f
  proper : IsWhole f → Sort f

-- bytes are those of another list, or not
alike : (f g : List ℕ) → (f ≡ g) ⊎ (f ≡ g → ⊥)
alike [] [] = inl refl
alike [] (y ∷ g) = inr (λ e. let z : ◌≡◌ {A = ℕ} 0 1 = cc in omega arith)
alike (x ∷ f) [] = inr (λ e. let z : ◌≡◌ {A = ℕ} 0 1 = cc in omega arith)
alike (x ∷ f) (y ∷ g) =
    elim (ℕ_discrete x y) [
      | yes e ↦ ⊎_elim (λ (h : f ≡ g). inl (let p : x ∷ f ≡ y ∷ g = cc in p)) (λ (h : f ≡ g → ⊥). inr (λ q. h (let p : f ≡ g = cc in p))) (alike f g)
      | no n ↦ inr (λ q. n (let p : x ≡ y = cc in p))
    ]

sort_of_lem : (f : List ℕ) → Sort f
sort_of_lem f =
    elim (ℕ_discrete (length f) 40) [
      | no n ↦ other n
      | yes l ↦ ⊎_elim (λ (e : f ≡ fill_c0). fill (inl e)) (λ (a : f ≡ fill_c0 → ⊥).
          ⊎_elim (λ (e : f ≡ fill_ff). fill (inr e)) (λ (b : f ≡ fill_ff → ⊥). proper (record { forty = l; not_c0 = a; not_ff = b })) (alike f fill_ff)) (alike f fill_c0)
    ]

answer_in : {s t : Received} {a : Answer} {d e : Desk} → s ≡ answered a d → t ≡ answered a e → s.answer ≡ t.answer
answer_in p q = ap (λ (t : Received). t.answer) p ∙ sym (ap (λ (t : Received). t.answer) q)

-- two desks that show the same and have the same half read
record SameDesk (o : Outfit) (d e : Desk) : Type 0 where
  looks : (item : Item) → o.look d item ≡ proved.look e item
  halves : d.half ≡ e.half

module _ (o : Outfit) (one : Demand1For o) (two : Demand2For o) where
  abbrev mine : SlotLaws o
  mine = two.desk

  abbrev yours : SlotLaws proved
  yours = slot_laws

  missed_same : {d e : Desk} → SameDesk o d e → SameDesk o (o.missed d) (proved.missed e)
  missed_same {d} {e} m =
      record { looks = λ item. mine.miss d item ∙ ap older (m.looks item) ∙ sym (yours.miss e item); halves = mine.miss_half d ∙ sym (yours.miss_half e) }

  -- a whole frame, item by item
  whole_looks : {d e : Desk} (f : List ℕ) → IsWhole f → SameDesk o d e → (item : Item) → o.look (o.slot d f).desk item ≡ proved.look (proved.slot e f).desk item
  whole_looks {d} {e} f w m item =
      split (is_plain (row_of item))
      (λ h.
      split (carries (row_of item) (index_of f))
      (λ c. mine.plain d f item w h c ∙ sym (yours.plain e f item w h c))
      (λ c. mine.other d f item w h c ∙ ap older (m.looks item) ∙ sym (yours.other e f item w h c)))
      (spread_items (λ x. o.look (o.slot d f).desk x ≡ proved.look (proved.slot e f).desk x) long free item)
    where
      long : o.look (o.slot d f).desk LongCounter ≡ proved.look (proved.slot e f).desk LongCounter
      long =
          mine.long d f w
          ∙ ap (λ (x : Half). replaced (completed x 3 3 f) (o.look d LongCounter)) m.halves
          ∙ ap (replaced (completed e.half 3 3 f)) (m.looks LongCounter)
          ∙ sym (yours.long e f w)

      free : o.look (o.slot d f).desk FreeTime ≡ proved.look (proved.slot e f).desk FreeTime
      free =
          mine.free d f w
          ∙ ap (λ (x : Half). replaced (completed x 28 1 f) (o.look d FreeTime)) m.halves
          ∙ ap (replaced (completed e.half 28 1 f)) (m.looks FreeTime)
          ∙ sym (yours.free e f w)

  slot_same : {d e : Desk} (f : List ℕ) → Sort f → SameDesk o d e → SameDesk o (o.slot d f).desk (proved.slot e f).desk
  slot_same {d} {e} f (other n) m = rw (one.frame17 d f n, demand_1.frame17 e f n) m
  slot_same {d} {e} f (fill (inl q)) m = rw (q, (one.fill d).0, (demand_1.fill e).0) (missed_same m)
  slot_same {d} {e} f (fill (inr q)) m = rw (q, (one.fill d).1, (demand_1.fill e).1) (missed_same m)
  slot_same {d} {e} f (proper w) m =
      record {
        looks = whole_looks f w m;
        halves = mine.half d f w ∙ ap (λ (x : Half). half_by x (index_of f) (byte39 f)) m.halves ∙ sym (yours.half e f w);
      }

  all_same : (cs : List Came) {d e : Desk} → SameDesk o d e → SameDesk o (all_come o d cs) (all_come proved e cs)
  unfolding all_come
  all_same [] m = m
  all_same (bytes f ∷ cs) m = all_same cs (slot_same f (sort_of_lem f) m)
  all_same (miss ∷ cs) m = all_same cs (missed_same m)

  fresh_same : SameDesk o o.fresh proved.fresh
  fresh_same = record { looks = λ item. mine.fresh item ∙ sym (yours.fresh item); halves = mine.fresh_half ∙ sym yours.fresh_half }

  answer_same : (d : Desk) (f : List ℕ) → Sort f → (o.slot d f).answer ≡ (proved.slot d f).answer
  answer_same d f (other n) = answer_in (one.frame17 d f n) (demand_1.frame17 d f n)
  answer_same d f (fill (inl q)) = rw q (answer_in (one.fill d).0 (demand_1.fill d).0)
  answer_same d f (fill (inr q)) = rw q (answer_in (one.fill d).1 (demand_1.fill d).1)
  answer_same d f (proper w) = one.heard d f w ∙ sym (demand_1.heard d f w)

pub one_hearing : OneHearing
one_hearing o one two =
    record {
      answers = λ d f. answer_same o one two d f (sort_of_lem f);
      shows = λ cs item. (all_same o one two cs (fresh_same o one two)).looks item;
    }
