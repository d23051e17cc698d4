-- Demand 3: what the desk shows is what the rig held, with its true age.
-- Fresh rig, fresh desk, any run of words, spins, settings, power cuts and frames, each slot reaching the desk in order, whole or missed. Frames may be on
-- their way when other things happen; no step builds a frame and hands it over in one. Assumes nothing.
use Rattle.std.specs.Prelude.{◌≡◌, List, [], ◌++◌, ℕ, replicate}
use Rattle.base.specs.declared.Frames.{Frames}
use Rattle.frame.specs.declared.Item.{Item}
use Rattle.frame.specs.Items.{row_of}
use Rattle.demands.specs.History.{held, Told}
use Rattle.demands.specs.Outfit.{Outfit}
use Rattle.demands.specs.Queue.{Line, Step, begin, steps, Beat, build, hand, beats, builds}
use Rattle.cell.specs.Shapes.{known}

-- the rig, the desk and what is between them after any steps from the start; and after builds and arrivals more, with nothing else happening
abbrev pub reached : Outfit → List Step → Line
reached o ss = steps o (begin o) ss

abbrev pub then_beats : Outfit → List Step → List Beat → Line
then_beats o ss bs = steps o (reached o ss) (beats bs)

-- demand 3, of any rig and desk
pub record Demand3For (o : Outfit) : Type 0 where
  -- Each value shown is what the rig held when the (first) frame that brought it was built, with its true age in slots up to the ceiling; unknown only
  -- until an unbroken bringing; the latest is shown.
  pub shown : (ss : List Step) (item : Item) → Told (row_of item) (reached o ss).past (o.look (reached o ss).desk item)
  -- Nothing is on its way; then 35 frames are built and all arrive whole, in any order of building and arriving, with nothing else happening: every item
  -- is shown and equals the rig's present one. (Frames that were on their way before have become slots of any sort, as part of ss.)
  pub round : (ss : List Step) → (reached o ss).way ≡ [] → (bs : List Beat) → builds bs ≡ 35 → (then_beats o ss bs).way ≡ [] → (item : Item)
      → (age : Frames) × (o.look (then_beats o ss bs).desk item ≡ known (held (then_beats o ss bs).rig (row_of item)) age)

-- 34 are not enough: there is a run after which, 34 whole slots later, some item that is shown is not the rig's present one.
pub record TooFew (o : Outfit) : Type 0 where
  pub run : List Step
  pub before : (reached o run).way ≡ []
  pub item : Item
  pub value : ℕ
  pub age : Frames
  pub old : o.look (then_beats o run (replicate 34 build ++ replicate 34 hand)).desk item ≡ known value age
  pub after : (then_beats o run (replicate 34 build ++ replicate 34 hand)).way ≡ []
  pub differs : value ≡ held (then_beats o run (replicate 34 build ++ replicate 34 hand)).rig (row_of item) → ⊥
