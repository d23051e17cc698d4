-- Demand 3 follows from demand 3 over runs in which every frame becomes a slot as it is built (specs/AtOnce), and gives it back, of any rig and desk: what
-- happens to the rig and what becomes a slot do not meet, so that a line stands where a world stands at which each frame arrived as it was built, less what
-- has happened to the rig since. Assumes nothing.
use mathlib.Core.Path.{◌≡◌, refl, ◌∙◌, sym, ap, subst}
use mathlib.Core.List.{List, [], ◌∷◌, ◌++◌}
use Prim.Native.Nat.{ℕ, zero, suc, ◌+◌}
use native.Mathlib.Omega.{arith}
use lib.ListN.{replicate}
use Rattle.base.specs.declared.Frames.{Frames}
use Rattle.frame.specs.Items.{row_of}
use Rattle.desk.specs.declared.Desk.{Desk}
use Rattle.rig.specs.declared.Rig.{Rig}
use Rattle.demands.specs.History.{Slot, missed, whole, held, Told}
use Rattle.demands.specs.Outfit.{Outfit}
use Rattle.demands.specs.AtOnce.{AtOnceFor, World, Turn, arrives, lost, lost_c0, lost_ff, start, next, run}
use Rattle.demands.specs.AtOnce as world
use Rattle.demands.specs.Demand3.{Demand3For}
use Rattle.demands.specs.Queue.{Line, Alone, word, spin, set, cut, no_room, Empty, marked, C0, FF, Step, alone, built, came, gone, idle, torn, begin, moved, unheard, arrive, lose, step, steps, Beat, build, hand, beats, builds}
use Rattle.cell.specs.Shapes.{known}

-- what has happened to the rig since: something to it alone, or a frame built
data Move : Type 0 where
  some : Alone → Move
  made : Move

module _ (o : Outfit) where
  rig_after : Rig → List Move → Rig
  rig_after r [] = r
  rig_after r (some e ∷ ms) = rig_after (moved o r e) ms
  rig_after r (made ∷ ms) = rig_after (o.rig.sent r) ms

  way_after : Rig → List Move → List Rig
  way_after r [] = []
  way_after r (some e ∷ ms) = way_after (moved o r e) ms
  way_after r (made ∷ ms) = r ∷ way_after (o.rig.sent r) ms

  -- one move more
  rig_some : (r : Rig) (ms : List Move) (e : Alone) → rig_after r (ms ++ (some e ∷ [])) ≡ moved o (rig_after r ms) e
  unfolding rig_after
  rig_some r [] e = refl
  rig_some r (some x ∷ ms) e = rig_some (moved o r x) ms e
  rig_some r (made ∷ ms) e = rig_some (o.rig.sent r) ms e

  rig_made : (r : Rig) (ms : List Move) → rig_after r (ms ++ (made ∷ [])) ≡ o.rig.sent (rig_after r ms)
  unfolding rig_after
  rig_made r [] = refl
  rig_made r (some x ∷ ms) = rig_made (moved o r x) ms
  rig_made r (made ∷ ms) = rig_made (o.rig.sent r) ms

  way_some : (r : Rig) (ms : List Move) (e : Alone) → way_after r (ms ++ (some e ∷ [])) ≡ way_after r ms
  unfolding way_after
  way_some r [] e = refl
  way_some r (some x ∷ ms) e = way_some (moved o r x) ms e
  way_some r (made ∷ ms) e = ap (λ (rs : List Rig). r ∷ rs) (way_some (o.rig.sent r) ms e)

  way_made : (r : Rig) (ms : List Move) → way_after r (ms ++ (made ∷ [])) ≡ way_after r ms ++ (rig_after r ms ∷ [])
  unfolding way_after rig_after
  way_made r [] = refl
  way_made r (some x ∷ ms) = way_made (moved o r x) ms
  way_made r (made ∷ ms) = ap (λ (rs : List Rig). r ∷ rs) (way_made (o.rig.sent r) ms)

  -- a world that some run of events reaches
  record Reached (w : World) : Type 0 where
    by : List Turn
    is : run o (start o) by ≡ w

  run_more : (w : World) (es : List Turn) (e : Turn) → run o w (es ++ (e ∷ [])) ≡ next o (run o w es) e
  unfolding run
  run_more w [] e = refl
  run_more w (x ∷ es) e = run_more (next o w x) es e

  further : {w : World} (e : Turn) → Reached w → Reached (next o w e)
  further e m = record { by = m.by ++ (e ∷ []); is = run_more (start o) m.by e ∙ ap (λ (x : World). next o x e) m.is }

  abbrev W : Rig → Desk → List Slot → World
  W r d h = record { rig = r; desk = d; past = h }

  -- an event of the world for each
  on_rig : {r : Rig} {d : Desk} {h : List Slot} (e : Alone) → Reached (W r d h) → Reached (W (moved o r e) d h)
  on_rig (word x h) m = further (world.word x h) m
  on_rig spin m = further world.spin m
  on_rig (set s h) m = further (world.set s h) m
  on_rig cut m = further world.cut m
  on_rig (no_room b at h) m = further (world.no_room b at h) m

  on_lost : {r : Rig} {d : Desk} {h : List Slot} (e : Empty) → Reached (W r d h) → Reached (W (o.rig.sent r) (unheard o d e) (missed ∷ h))
  on_lost marked m = further world.lost m
  on_lost C0 m = further world.lost_c0 m
  on_lost FF m = further world.lost_ff m

  on_idle : {r : Rig} {d : Desk} {h : List Slot} (e : Empty) → Reached (W r d h) → Reached (W r (unheard o d e) (missed ∷ h))
  on_idle marked m = further world.idle m
  on_idle C0 m = further world.idle_c0 m
  on_idle FF m = further world.idle_ff m

  -- a line, and the world that it has caught up with
  record Behind (w : Line) : Type 0 where
    from : Rig
    since : List Move
    reached : Reached (W from w.desk w.past)
    rig : rig_after from since ≡ w.rig
    way : way_after from since ≡ w.way

  -- the world brought up to the building of the oldest frame on its way
  record Oldest (d : Desk) (h : List Slot) (first : Rig) (rest : List Rig) (last : Rig) : Type 0 where
    then : List Move
    reached : Reached (W first d h)
    rig : rig_after (o.rig.sent first) then ≡ last
    way : way_after (o.rig.sent first) then ≡ rest

  oldest : {d : Desk} {h : List Slot} (r : Rig) (ms : List Move) {first : Rig} {rest : List Rig} {last : Rig}
      → Reached (W r d h) → rig_after r ms ≡ last → way_after r ms ≡ first ∷ rest → Oldest d h first rest last
  unfolding rig_after way_after
  oldest r [] m e f = let z : ◌≡◌ {A = ℕ} 0 1 = cc in absurd (omega arith)
  oldest r (some x ∷ ms) m e f = oldest (moved o r x) ms (on_rig x m) e f
  oldest {d} {h} r (made ∷ ms) {first} {rest} m e f =
      let a : r ≡ first = cc in
      let b : way_after (o.rig.sent r) ms ≡ rest = cc in
      record {
        then = ms;
        reached = subst (λ (x : Rig). Reached (W x d h)) a m;
        rig = ap (λ (x : Rig). rig_after (o.rig.sent x) ms) (sym a) ∙ e;
        way = ap (λ (x : Rig). way_after (o.rig.sent x) ms) (sym a) ∙ b;
      }

  arrived : (w : Line) (rs : List Rig) → w.way ≡ rs → Behind w → Behind (arrive o w rs)
  arrived w [] e b = b
  arrived w (r ∷ rs) e b =
      let f = oldest b.from b.since b.reached b.rig (b.way ∙ e) in
      record { from = o.rig.sent r; since = f.then; reached = further arrives f.reached; rig = f.rig; way = f.way }

  lose_it : (w : Line) (x : Empty) (rs : List Rig) → w.way ≡ rs → Behind w → Behind (lose o w x rs)
  lose_it w x [] e b = b
  lose_it w x (r ∷ rs) e b =
      let f = oldest b.from b.since b.reached b.rig (b.way ∙ e) in
      record { from = o.rig.sent r; since = f.then; reached = on_lost x f.reached; rig = f.rig; way = f.way }

  stays : (w : Line) (s : Step) → Behind w → Behind (step o w s)
  stays w (alone e) b =
      record {
        from = b.from;
        since = b.since ++ (some e ∷ []);
        reached = b.reached;
        rig = rig_some b.from b.since e ∙ ap (λ (r : Rig). moved o r e) b.rig;
        way = way_some b.from b.since e ∙ b.way;
      }
  stays w built b =
      record {
        from = b.from;
        since = b.since ++ (made ∷ []);
        reached = b.reached;
        rig = rig_made b.from b.since ∙ ap o.rig.sent b.rig;
        way = way_made b.from b.since ∙ cc (b.rig, b.way);
      }
  stays w came b = arrived w w.way refl b
  stays w (gone e) b = lose_it w e w.way refl b
  stays w (idle e) b = record { from = b.from; since = b.since; reached = on_idle e b.reached; rig = b.rig; way = b.way }
  stays w (torn f h) b = record { from = b.from; since = b.since; reached = further (world.torn f h) b.reached; rig = b.rig; way = b.way }

  all : (w : Line) (ss : List Step) → Behind w → Behind (steps o w ss)
  unfolding steps
  all w [] b = b
  all w (s ∷ ss) b = all (step o w s) ss (stays w s b)

  begun : Behind (begin o)
  unfolding rig_after way_after run
  begun = record { from = o.rig.start; since = []; reached = record { by = []; is = refl }; rig = refl; way = refl }

  behind : (ss : List Step) → Behind (steps o (begin o) ss)
  behind ss = all (begin o) ss begun

  -- with nothing on its way, the world has caught up
  caught : {d : Desk} {h : List Slot} (r : Rig) (ms : List Move) {last : Rig} → Reached (W r d h) → rig_after r ms ≡ last → way_after r ms ≡ [] → Reached (W last d h)
  unfolding rig_after way_after
  caught {d} {h} r [] m e f = subst (λ (x : Rig). Reached (W x d h)) e m
  caught r (some x ∷ ms) m e f = caught (moved o r x) ms (on_rig x m) e f
  caught r (made ∷ ms) m e f = let z : ◌≡◌ {A = ℕ} 0 1 = cc in absurd (omega arith)

  -- n frames arrived as they were built, and m more built since
  whole_run : (w : World) (n : ℕ) → run o w (replicate (suc n) arrives) ≡ next o (run o w (replicate n arrives)) arrives
  unfolding run
  whole_run w zero = refl
  whole_run w (suc n) = whole_run (next o w arrives) n

  rigs : Rig → ℕ → Rig
  rigs r zero = r
  rigs r (suc m) = rigs (o.rig.sent r) m

  ways : Rig → ℕ → List Rig
  ways r zero = []
  ways r (suc m) = r ∷ ways (o.rig.sent r) m

  rigs_more : (r : Rig) (m : ℕ) → rigs r (suc m) ≡ o.rig.sent (rigs r m)
  unfolding rigs
  rigs_more r zero = refl
  rigs_more r (suc m) = rigs_more (o.rig.sent r) m

  ways_more : (r : Rig) (m : ℕ) → ways r (suc m) ≡ ways r m ++ (rigs r m ∷ [])
  unfolding rigs ways
  ways_more r zero = refl
  ways_more r (suc m) = ap (λ (rs : List Rig). r ∷ rs) (ways_more (o.rig.sent r) m)

  record Tail (w : World) (l : Line) (n m : ℕ) : Type 0 where
    from : Rig
    is : run o w (replicate n arrives) ≡ W from l.desk l.past
    rig : rigs from m ≡ l.rig
    way : ways from m ≡ l.way

  tail_built : {w : World} {l : Line} {n m : ℕ} → Tail w l n m → Tail w (step o l built) n (suc m)
  tail_built {m = m} t =
      record {
        from = t.from;
        is = t.is;
        rig = rigs_more t.from m ∙ ap o.rig.sent t.rig;
        way = ways_more t.from m ∙ cc (t.rig, t.way);
      }

  record Tails (w : World) (l : Line) (k : ℕ) : Type 0 where
    arrived : ℕ
    waiting : ℕ
    sum : arrived + waiting ≡ k
    tail : Tail w l arrived waiting

  tail_hand : {w : World} {l : Line} (n m : ℕ) (rs : List Rig) → l.way ≡ rs → Tail w l n m → Tails w (arrive o l rs) (n + m)
  unfolding rigs ways
  tail_hand n m [] e t = record { arrived = n; waiting = m; sum = refl; tail = t }
  tail_hand n zero (r ∷ rs) e t = let z : [] ≡ r ∷ rs = t.way ∙ e in let y : ◌≡◌ {A = ℕ} 0 1 = cc in absurd (omega arith)
  tail_hand {w} {l} n (suc m) (r ∷ rs) e t =
      let z : t.from ∷ ways (o.rig.sent t.from) m ≡ r ∷ rs = t.way ∙ e in
      let a : t.from ≡ r = cc in
      let b : ways (o.rig.sent t.from) m ≡ rs = cc in
      record {
        arrived = suc n;
        waiting = m;
        sum = omega arith;
        tail = record {
          from = o.rig.sent t.from;
          is = whole_run w n ∙ ap (λ (x : World). next o x arrives) t.is
              ∙ ap (λ (x : Rig). W (o.rig.sent t.from) (o.slot l.desk (o.frame x)).desk (whole x ∷ l.past)) a;
          rig = t.rig;
          way = b;
        };
      }

  tail_all : {w : World} (l : Line) (bs : List Beat) {k : ℕ} → Tails w l k → Tails w (steps o l (beats bs)) (builds bs + k)
  unfolding steps
  tail_all l [] {k} t = subst (Tails _ l) (let e : k ≡ 0 + k = omega arith in e) t
  tail_all {w} l (build ∷ bs) {k} t =
      let b : Tails w (step o l built) (suc k) = record { arrived = t.arrived; waiting = suc t.waiting; sum = let e = t.sum in omega arith; tail = tail_built t.tail } in
      subst (Tails w (steps o (step o l built) (beats bs))) (let e : builds bs + suc k ≡ suc (builds bs) + k = omega arith in e) (tail_all (step o l built) bs b)
  tail_all {w} l (hand ∷ bs) t =
      tail_all (step o l came) bs (subst (Tails w (step o l came)) t.sum (tail_hand t.arrived t.waiting l.way refl t.tail))

  -- none on its way: all have arrived
  tail_end : {w : World} {l : Line} {n : ℕ} (m : ℕ) → Tail w l n m → l.way ≡ [] → (m ≡ 0) × (run o w (replicate n arrives) ≡ W l.rig l.desk l.past)
  unfolding rigs ways
  tail_end {l = l} zero t e = (refl, t.is ∙ ap (λ (r : Rig). W r l.desk l.past) t.rig)
  tail_end (suc m) t e = let z : t.from ∷ ways (o.rig.sent t.from) m ≡ [] = t.way ∙ e in let y : ◌≡◌ {A = ℕ} 0 1 = cc in absurd (omega arith)

  round_it : (l : Line) → Reached (W l.rig l.desk l.past) → l.way ≡ [] → (bs : List Beat) → builds bs ≡ 35 → (steps o l (beats bs)).way ≡ []
      → (es : List Turn) × (let q = steps o l (beats bs) in run o (run o (start o) es) (replicate 35 arrives) ≡ W q.rig q.desk q.past)
  unfolding rigs ways run
  round_it l m e bs k f =
      let w = W l.rig l.desk l.past in
      let t = tail_all {w = w} l bs (record { arrived = 0; waiting = 0; sum = refl; tail = record { from = l.rig; is = refl; rig = refl; way = sym e } }) in
      let z = tail_end t.waiting t.tail f in
      let n : t.arrived ≡ 35 = let s = t.sum in let y = z.0 in omega arith in
      (m.by, ap (λ (x : World). run o x (replicate 35 arrives)) m.is ∙ ap (λ (x : ℕ). run o w (replicate x arrives)) (sym n) ∙ z.1)

  pub queued : AtOnceFor o → Demand3For o
  queued d =
      record {
        shown = λ ss item.
            let b = behind ss in
            subst (λ (w : World). Told (row_of item) w.past (o.look w.desk item)) b.reached.is (d.shown b.reached.by item);
        round = λ ss e bs k f item.
            let b = behind ss in
            let l = steps o (begin o) ss in
            let t = round_it l (caught b.from b.since b.reached b.rig (b.way ∙ e)) e bs k f in
            subst (λ (w : World). (age : Frames) × (o.look w.desk item ≡ known (held w.rig (row_of item)) age)) t.1 (d.round t.0 item);
      }

-- and back: a run in which each frame becomes a slot as it is built is a run of steps
module _ (o : Outfit) where
  steps_of : Turn → List Step
  steps_of (world.word x h) = alone (word x h) ∷ []
  steps_of world.spin = alone spin ∷ []
  steps_of (world.set s h) = alone (set s h) ∷ []
  steps_of world.cut = alone cut ∷ []
  steps_of arrives = built ∷ came ∷ []
  steps_of lost = built ∷ gone marked ∷ []
  steps_of lost_c0 = built ∷ gone C0 ∷ []
  steps_of lost_ff = built ∷ gone FF ∷ []
  steps_of world.idle = idle marked ∷ []
  steps_of world.idle_c0 = idle C0 ∷ []
  steps_of world.idle_ff = idle FF ∷ []
  steps_of (world.no_room b at h) = alone (no_room b at h) ∷ []
  steps_of (world.torn f h) = torn f h ∷ []

  -- a world as a line with nothing on its way
  abbrev line_of : World → Line
  line_of w = record { rig = w.rig; desk = w.desk; past = w.past; way = [] }

  each_step : (w : World) (e : Turn) → steps o (line_of w) (steps_of e) ≡ line_of (next o w e)
  unfolding steps steps_of
  each_step w (world.word x h) = refl
  each_step w world.spin = refl
  each_step w (world.set s h) = refl
  each_step w world.cut = refl
  each_step w arrives = refl
  each_step w lost = refl
  each_step w lost_c0 = refl
  each_step w lost_ff = refl
  each_step w world.idle = refl
  each_step w world.idle_c0 = refl
  each_step w world.idle_ff = refl
  each_step w (world.no_room b at h) = refl
  each_step w (world.torn f h) = refl

  steps_all : List Turn → List Step
  steps_all [] = []
  steps_all (e ∷ es) = steps_of e ++ steps_all es

  steps_join : (l : Line) (ss ts : List Step) → steps o l (ss ++ ts) ≡ steps o (steps o l ss) ts
  unfolding steps
  steps_join l [] ts = refl
  steps_join l (s ∷ ss) ts = steps_join (step o l s) ss ts

  all_steps : (w : World) (es : List Turn) → steps o (line_of w) (steps_all es) ≡ line_of (run o w es)
  unfolding steps run steps_all
  all_steps w [] = refl
  all_steps w (e ∷ es) =
      steps_join (line_of w) (steps_of e) (steps_all es) ∙ ap (λ (l : Line). steps o l (steps_all es)) (each_step w e) ∙ all_steps (next o w e) es

  -- 35 built, each arriving before the next
  pairs : ℕ → List Beat
  pairs zero = []
  pairs (suc n) = build ∷ hand ∷ pairs n

  pair_builds : (n : ℕ) → builds (pairs n) ≡ n
  unfolding pairs
  pair_builds zero = refl
  pair_builds (suc n) = ap suc (pair_builds n)

  pair_steps : (w : World) (n : ℕ) → steps o (line_of w) (beats (pairs n)) ≡ line_of (run o w (replicate n arrives))
  unfolding steps run pairs
  pair_steps w zero = refl
  pair_steps w (suc n) = pair_steps (next o w arrives) n

  pub as_they_are_built : Demand3For o → AtOnceFor o
  as_they_are_built d =
      record {
        shown = λ es item. subst (λ (l : Line). Told (row_of item) l.past (o.look l.desk item)) (all_steps (start o) es) (d.shown (steps_all es) item);
        round = λ es item.
            let w = run o (start o) es in
            let e = all_steps (start o) es in
            let f : steps o (steps o (begin o) (steps_all es)) (beats (pairs 35)) ≡ line_of (run o w (replicate 35 arrives)) = ap (λ (l : Line). steps o l (beats (pairs 35))) e ∙ pair_steps w 35 in
            subst (λ (l : Line). (age : Frames) × (o.look l.desk item ≡ known (held l.rig (row_of item)) age)) f
            (d.round (steps_all es) (ap (λ (l : Line). l.way) e) (pairs 35) (pair_builds 35) (ap (λ (l : Line). l.way) f) item);
      }
