-- Each step of a run (specs/Queue) is what the functions of `bench`, `slots`, `passing` and `losing` do to its rig and desk: said of each function's own contract
-- (`Reads.Pre`, `Reads.Post`), so that a changed `requires` or `ensures` is seen here. So the demands, said of runs, are said of code that runs. Assumes nothing.
-- Where a slice is lent, a is the arguments and e what the call leaves of them.
use Rattle.std.specs.Prelude.{◌≡◌, List, [], ◌∷◌, ℕ, ◌+◌, ◌≤◌, ◌<◌, length, take, drop, Ok, Err}
use contract.Lifetimes.{Lfts}
use denote.Triple.Clauses.{AtExit}
use borrow.Fn.Kinds.{Dens, ended_of}
use Rattle.frame.specs.Items.{numbered}
use Rattle.desk.specs.declared.Answer.TheVariants as desk
use Rattle.power.specs.declared.PanelSetting.{PanelSetting}
use Rattle.rig.specs.declared.Rig.{Rig}
use Rattle.bench.specs.declared.Bench.{Bench}
use Rattle.bench.specs.declared.Worded.{Worded}
use Rattle.bench.proofs.fresh.Reads as fresh-fn
use Rattle.bench.proofs.word.Reads as word-fn
use Rattle.bench.proofs.spin.Reads as spin-fn
use Rattle.bench.proofs.set.Reads as set_fn
use Rattle.bench.proofs.power_cut.Reads as cut-fn
use Rattle.slots.specs.declared.Sent.{Sent}
use Rattle.slots.specs.declared.Passed.{Passed}
use Rattle.desk.specs.declared.Answer.{Answer}
use Rattle.slots.specs.declared.Handed.{Handed}
use Rattle.slots.proofs.build.Reads as build-fn
use Rattle.slots.proofs.build.Kinds as build-kinds
use Rattle.slots.proofs.hand.Reads as hand-fn
use Rattle.slots.proofs.hand.Kinds as hand-kinds
use Rattle.slots.proofs.miss.Reads as miss-fn
use Rattle.passing.proofs.arrives.Reads as arrives-fn
use Rattle.passing.proofs.arrives.Kinds as arrives-kinds
use Rattle.losing.proofs.lost.Reads as lost-fn
use Rattle.losing.proofs.lost.Kinds as lost-kinds
use Rattle.laws.specs.Runs.{FitsPanel}
use Rattle.demands.specs.Outfit.{proved, fill_c0, fill_ff}
use Rattle.demands.specs.Queue.{Line, word, spin, set, cut, no_room, marked, C0, FF, Step, alone, built, came, gone, idle, torn, begin, step}

-- the rig and the desk of a line, and after a step
abbrev pub bench_at : Line → Bench
bench_at l = record { rig = l.rig; desk = l.desk }

abbrev pub then : Line → Step → Line
then l s = step proved l s

-- the oldest frame on its way, with those behind it
abbrev pub Oldest : Line → Rig → List Rig → Type 0
Oldest l r rs = l.way ≡ r ∷ rs

-- what a call of a function that lends a slice leaves of its arguments
abbrev pub BuildExit : Lfts 1 → Type 0
BuildExit κs = AtExit (ended_of 1 build-kinds.ps build-kinds.r) κs

abbrev pub HandExit : Lfts 1 → Type 0
HandExit κs = AtExit (ended_of 1 hand-kinds.ps hand-kinds.r) κs

-- bytes f handed over at the line l: what the call answers, and the bench it leaves
abbrev pub Handing : Line → List ℕ → (Handed → Type 0) → Type 0
Handing l f P =
    (κs : Lfts 1) (a : Dens κs hand-kinds.ps) (e : HandExit κs) (t : Handed) → a.0 ≡ bench_at l → a.1.0.now ≡ f → hand-fn.Post κs a t e → P t

-- a frame written: the bench is that of the line k, and of the buffer s the 40 bytes at the place are the frame of the line l, and no other byte has moved
abbrev pub Written : Line → Line → List ℕ → ℕ → Sent → List ℕ → Type 0
Written l k s at t left = (t.bench ≡ bench_at k) × (t.wrote ≡ Ok tt) × (left ≡ proved.filled l.rig s at)

-- the same of a frame whose slot has passed, which the desk answered
abbrev pub WrittenOn : Line → Line → List ℕ → ℕ → Answer → Passed → List ℕ → Type 0
WrittenOn l k s at a t left = (t.bench ≡ bench_at k) × (t.outcome ≡ Ok a) × (left ≡ proved.filled l.rig s at)

-- no room (18): bench and buffer are as they were, and no slot passes
abbrev pub NoRoom : Line → List ℕ → Sent → List ℕ → Type 0
NoRoom l s t left = (t.bench ≡ bench_at l) × (t.wrote ≡ Err (numbered 18)) × (left ≡ s)

abbrev pub NoSlot : Line → List ℕ → Passed → List ℕ → Type 0
NoSlot l s t left = (t.bench ≡ bench_at l) × (t.outcome ≡ Err (numbered 18)) × (left ≡ s)

-- what happens to the rig alone
pub record PlayedAlone : Type 0 where
  pub fresh : (b : Bench) → fresh-fn.Post tt tt b tt → b ≡ bench_at (begin proved)
  pub words : (l : Line) (x : ℕ) (h : x < 0x10000) (t : Worded) → word-fn.Post tt (bench_at l, (x, tt)) t (bench_at l, (x, tt))
      → (t.bench ≡ bench_at (then l (alone (word x h)))) × (t.reply ≡ (proved.rig.take l.rig x).reply)
  pub spins : (l : Line) (b : Bench) → spin-fn.Post tt (bench_at l, tt) b (bench_at l, tt) → b ≡ bench_at (then l (alone spin))
  pub sets : (l : Line) (s : PanelSetting) (h : FitsPanel s) (b : Bench) → set_fn.Post tt (bench_at l, (s, tt)) b (bench_at l, (s, tt))
      → b ≡ bench_at (then l (alone (set s h)))
  pub cuts : (l : Line) (b : Bench) → cut-fn.Post tt (bench_at l, tt) b (bench_at l, tt) → b ≡ bench_at (then l (alone cut))
  -- they ask nothing
  pub asks_fresh : fresh-fn.Pre tt tt
  pub asks_word : (b : Bench) (x : ℕ) → word-fn.Pre tt (b, (x, tt))
  pub asks_spin : (b : Bench) → spin-fn.Pre tt (b, tt)
  pub asks_set : (b : Bench) (s : PanelSetting) → set_fn.Pre tt (b, (s, tt))
  pub asks_cut : (b : Bench) → cut-fn.Pre tt (b, tt)

-- frames and slots
pub record PlayedSlots : Type 0 where
  -- a frame built, at any place of any buffer with room; and where there is none (18)
  pub builds : (l : Line) (κs : Lfts 1) (a : Dens κs build-kinds.ps) (e : BuildExit κs) (t : Sent)
      → a.0 ≡ bench_at l → a.1.1.0 + 40 ≤ length a.1.0.now → build-fn.Post κs a t e
      → Written l (then l built) a.1.0.now a.1.1.0 t e.1.0.now
  pub room18 : (l : Line) (κs : Lfts 1) (a : Dens κs build-kinds.ps) (e : BuildExit κs) (t : Sent)
      → a.0 ≡ bench_at l → (h : length a.1.0.now < a.1.1.0 + 40) → build-fn.Post κs a t e
      → (t.bench ≡ bench_at (then l (alone (no_room a.1.0.now a.1.1.0 h)))) × NoRoom l a.1.0.now t e.1.0.now
  -- whatever bytes are handed over, foreign frames too, the desk takes them as the demands say of it, and the rig stays
  pub any : (l : Line) (f : List ℕ)
      → Handing l f (λ t. (t.bench ≡ record { rig = l.rig; desk = (proved.slot l.desk f).desk }) × (t.answer ≡ (proved.slot l.desk f).answer))
  -- The oldest frame on its way arrives: it was built by a call of `build` with the rig as it then was, in whatever buffer, and the very bytes that this
  -- call left at its place are handed over.
  pub hands : (l : Line) (r : Rig) (rs : List Rig) → Oldest l r rs
      → (κs : Lfts 1) (a : Dens κs build-kinds.ps) (e : BuildExit κs) (q : Sent)
      → a.0.rig ≡ r → a.1.1.0 + 40 ≤ length a.1.0.now → build-fn.Post κs a q e
      → Handing l (take 40 (drop a.1.1.0 e.1.0.now)) (λ t. (t.bench ≡ bench_at (then l came)) × (t.answer ≡ desk.Heard))
  -- or a miss, or fill, in its place
  pub misses : (l : Line) (r : Rig) (rs : List Rig) → Oldest l r rs → (b : Bench) → miss-fn.Post tt (bench_at l, tt) b (bench_at l, tt)
      → b ≡ bench_at (then l (gone marked))
  pub fills_c0 : (l : Line) (r : Rig) (rs : List Rig) → Oldest l r rs → Handing l fill_c0 (λ t. (t.bench ≡ bench_at (then l (gone C0))) × (t.answer ≡ desk.Missed))
  pub fills_ff : (l : Line) (r : Rig) (rs : List Rig) → Oldest l r rs → Handing l fill_ff (λ t. (t.bench ≡ bench_at (then l (gone FF))) × (t.answer ≡ desk.Missed))
  -- a slot for which no frame was built; and bytes of another length (17)
  pub idles : (l : Line) (b : Bench) → miss-fn.Post tt (bench_at l, tt) b (bench_at l, tt) → b ≡ bench_at (then l (idle marked))
  pub idles_c0 : (l : Line) → Handing l fill_c0 (λ t. (t.bench ≡ bench_at (then l (idle C0))) × (t.answer ≡ desk.Missed))
  pub idles_ff : (l : Line) → Handing l fill_ff (λ t. (t.bench ≡ bench_at (then l (idle FF))) × (t.answer ≡ desk.Missed))
  pub frame17 : (l : Line) (f : List ℕ) (n : length f ≡ 40 → ⊥)
      → Handing l f (λ t. (t.bench ≡ bench_at (then l (torn f n))) × (t.answer ≡ desk.Refused (numbered 17)))
  -- built and handed over in one, or built and lost in one: with nothing on its way, the two steps one after the other
  pub whole : (l : Line) → l.way ≡ [] → (κs : Lfts 1) (a : Dens κs arrives-kinds.ps) (e : AtExit (ended_of 1 arrives-kinds.ps arrives-kinds.r) κs) (t : Passed)
      → a.0 ≡ bench_at l → a.1.1.0 + 40 ≤ length a.1.0.now → arrives-fn.Post κs a t e
      → WrittenOn l (then (then l built) came) a.1.0.now a.1.1.0 desk.Heard t e.1.0.now
  pub lost : (l : Line) → l.way ≡ [] → (κs : Lfts 1) (a : Dens κs lost-kinds.ps) (e : AtExit (ended_of 1 lost-kinds.ps lost-kinds.r) κs) (t : Passed)
      → a.0 ≡ bench_at l → a.1.1.0 + 40 ≤ length a.1.0.now → lost-fn.Post κs a t e
      → WrittenOn l (then (then l built) (gone marked)) a.1.0.now a.1.1.0 desk.Missed t e.1.0.now
  -- and where there is no room, neither
  pub whole18 : (l : Line) (κs : Lfts 1) (a : Dens κs arrives-kinds.ps) (e : AtExit (ended_of 1 arrives-kinds.ps arrives-kinds.r) κs) (t : Passed)
      → a.0 ≡ bench_at l → length a.1.0.now < a.1.1.0 + 40 → arrives-fn.Post κs a t e → NoSlot l a.1.0.now t e.1.0.now
  pub lost18 : (l : Line) (κs : Lfts 1) (a : Dens κs lost-kinds.ps) (e : AtExit (ended_of 1 lost-kinds.ps lost-kinds.r) κs) (t : Passed)
      → a.0 ≡ bench_at l → length a.1.0.now < a.1.1.0 + 40 → lost-fn.Post κs a t e → NoSlot l a.1.0.now t e.1.0.now
  -- they ask nothing
  pub asks_build : (κs : Lfts 1) (a : Dens κs build-kinds.ps) → build-fn.Pre κs a
  pub asks_hand : (κs : Lfts 1) (a : Dens κs hand-kinds.ps) → hand-fn.Pre κs a
  pub asks_miss : (b : Bench) → miss-fn.Pre tt (b, tt)
  pub asks_arrives : (κs : Lfts 1) (a : Dens κs arrives-kinds.ps) → arrives-fn.Pre κs a
  pub asks_lost : (κs : Lfts 1) (a : Dens κs lost-kinds.ps) → lost-fn.Pre κs a
