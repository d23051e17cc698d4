-- Runs in which every frame becomes a slot as it is built, and demand 3 over these. The demand itself is over all runs (specs/Queue, specs/Demand3), and
-- follows from this, and gives this (proofs/Queue): the proofs begin here. Assumes nothing.
use Rattle.std.specs.Prelude.{◌≡◌, List, [], ◌∷◌, ℕ, ◌+◌, ◌<◌, length, replicate}
use Rattle.base.specs.declared.Frames.{Frames}
use Rattle.base.specs.Counts.{frames}
use Rattle.frame.specs.declared.Item.{Item}
use Rattle.frame.specs.Items.{row_of}
use Rattle.desk.specs.declared.Desk.{Desk}
use Rattle.power.specs.declared.PanelSetting.{PanelSetting}
use Rattle.rig.specs.declared.Rig.{Rig}
use Rattle.laws.specs.Runs.{FitsPanel}
use Rattle.demands.specs.History.{Slot, missed, whole, held, Told}
use Rattle.demands.specs.Outfit.{Outfit, fill_c0, fill_ff}
use Rattle.cell.specs.Shapes.{known}

-- rig, desk, and every slot so far, the newest first
pub record World : Type 0 where
  pub rig : Rig
  pub desk : Desk
  pub past : List Slot

-- everything that can happen
pub data Turn : Type 0 where
  -- a word of 16 bits, a spin, a setting by the instructor, a power cut: the desk hears nothing
  word : (w : ℕ) → w < 0x10000 → Turn
  spin : Turn
  set : (s : PanelSetting) → FitsPanel s → Turn
  cut : Turn
  -- the next frame is built and its slot arrives whole
  arrives : Turn
  -- the next frame is built and its slot is marked missed, or arrives as fill
  lost : Turn
  lost_c0 : Turn
  lost_ff : Turn
  -- no frame is built, and a slot is marked missed or arrives as fill
  idle : Turn
  idle_c0 : Turn
  idle_ff : Turn
  -- a frame was to be built where there is no room (18)
  no_room : (b : List ℕ) (at : ℕ) → length b < at + 40 → Turn
  -- no frame is built, and bytes of another length are handed to the desk (17): no slot passes
  torn : (f : List ℕ) → (length f ≡ 40 → ⊥) → Turn

module _ (o : Outfit) where
  -- fresh rig, fresh desk, no slot yet
  abbrev pub start : World
  start = record { rig = o.rig.start; desk = o.fresh; past = [] }

  -- the world with another rig: no slot passes
  abbrev pub with_rig : World → Rig → World
  with_rig w r = record { rig = r; desk = w.desk; past = w.past }

  -- a frame built whose slot became the desk d, and is told as s
  abbrev pub built : World → Desk → Slot → World
  built w d s = record { rig = o.rig.sent w.rig; desk = d; past = s ∷ w.past }

  -- a slot with no frame built
  abbrev pub unbuilt : World → Desk → World
  unbuilt w d = record { rig = w.rig; desk = d; past = missed ∷ w.past }

  -- what each turn does to the world
  abbrev pub next : World → Turn → World
  next w (word x h) = with_rig w (o.rig.take w.rig x).rig
  next w spin = with_rig w (o.rig.spin w.rig)
  next w (set s h) = with_rig w (o.rig.set w.rig s)
  next w cut = with_rig w (o.rig.cut w.rig)
  next w arrives = built w (o.slot w.desk (o.frame w.rig)).desk (whole w.rig)
  next w lost = built w (o.missed w.desk) missed
  next w lost_c0 = built w (o.slot w.desk fill_c0).desk missed
  next w lost_ff = built w (o.slot w.desk fill_ff).desk missed
  next w idle = unbuilt w (o.missed w.desk)
  next w idle_c0 = unbuilt w (o.slot w.desk fill_c0).desk
  next w idle_ff = unbuilt w (o.slot w.desk fill_ff).desk
  next w (no_room b at h) = with_rig w (o.build w.rig b at).rig
  next w (torn f h) = record { rig = w.rig; desk = (o.slot w.desk f).desk; past = w.past }

  -- turns in order, any number of them
  unfoldable pub run : World → List Turn → World
  run w [] = w
  run w (e ∷ es) = run (next w e) es

  -- the world after any turns
  abbrev pub after_turns : List Turn → World
  after_turns es = run start es

-- as many slots as make every item known: 35
abbrev pub enough : Frames
enough = frames 35

-- the world after any turns, and after so many whole slots more with nothing else happening
abbrev pub then_whole : Outfit → List Turn → Frames → World
then_whole o es n = run o (after_turns o es) (replicate n.0 arrives)

-- demand 3 over these runs, of any rig and desk
pub record AtOnceFor (o : Outfit) : Type 0 where
  pub shown : (es : List Turn) (item : Item) → Told (row_of item) (after_turns o es).past (o.look (after_turns o es).desk item)
  pub round : (es : List Turn) (item : Item)
      → (age : Frames) × (o.look (then_whole o es enough).desk item ≡ known (held (then_whole o es enough).rig (row_of item)) age)
