-- Runs of a rig and a desk with frames on their way: any number may be built before the oldest becomes a slot.
-- Keeps 01's third demand: everything that can happen, step by step. Frames become slots in the order in which they were built: whole, marked missed, or
-- as fill. Assumes nothing.
use Rattle.std.specs.Prelude.{◌≡◌, List, [], ◌∷◌, ◌++◌, ℕ, suc, ◌+◌, ◌<◌, length}
use Rattle.desk.specs.declared.Desk.{Desk}
use Rattle.power.specs.declared.PanelSetting.{PanelSetting}
use Rattle.rig.specs.declared.Rig.{Rig}
use Rattle.laws.specs.Runs.{FitsPanel}
use Rattle.demands.specs.History.{Slot, missed, whole}
use Rattle.demands.specs.Outfit.{Outfit, fill_c0, fill_ff}

-- rig, desk, every slot so far, the newest first; and the frames on their way, the oldest first: of each, the rig as it was when it was built
pub record Line : Type 0 where
  pub rig : Rig
  pub desk : Desk
  pub past : List Slot
  pub way : List Rig

-- what happens to the rig alone: a word of 16 bits, a spin, a setting, a power cut, a frame that was to be built where there is no room (18)
pub data Alone : Type 0 where
  word : (w : ℕ) → w < 0x10000 → Alone
  spin : Alone
  set : (s : PanelSetting) → FitsPanel s → Alone
  cut : Alone
  no_room : (b : List ℕ) (at : ℕ) → length b < at + 40 → Alone

-- how a slot brings nothing: marked missed, or as fill
pub data Empty : Type 0 where
  marked : Empty
  C0 : Empty
  FF : Empty

pub data Step : Type 0 where
  alone : Alone → Step
  -- the next frame is built, and is on its way
  built : Step
  -- the oldest frame on its way arrives whole, or its slot brings nothing; where none is on its way, nothing happens
  came : Step
  gone : Empty → Step
  -- a slot for which no frame was built brings nothing; bytes of another length (17), and no slot passes
  idle : Empty → Step
  torn : (f : List ℕ) → (length f ≡ 40 → ⊥) → Step

module _ (o : Outfit) where
  -- fresh rig, fresh desk, no slot yet, nothing on its way
  abbrev pub begin : Line
  begin = record { rig = o.rig.start; desk = o.fresh; past = []; way = [] }

  abbrev pub moved : Rig → Alone → Rig
  moved r (word x h) = (o.rig.take r x).rig
  moved r spin = o.rig.spin r
  moved r (set s h) = o.rig.set r s
  moved r cut = o.rig.cut r
  moved r (no_room b at h) = (o.build r b at).rig

  abbrev pub unheard : Desk → Empty → Desk
  unheard d marked = o.missed d
  unheard d C0 = (o.slot d fill_c0).desk
  unheard d FF = (o.slot d fill_ff).desk

  -- the oldest on its way becomes a slot
  abbrev pub arrive : Line → List Rig → Line
  arrive w [] = w
  arrive w (r ∷ rs) = record { rig = w.rig; desk = (o.slot w.desk (o.frame r)).desk; past = whole r ∷ w.past; way = rs }

  abbrev pub lose : Line → Empty → List Rig → Line
  lose w e [] = w
  lose w e (r ∷ rs) = record { rig = w.rig; desk = unheard w.desk e; past = missed ∷ w.past; way = rs }

  abbrev pub step : Line → Step → Line
  step w (alone e) = record { rig = moved w.rig e; desk = w.desk; past = w.past; way = w.way }
  step w built = record { rig = o.rig.sent w.rig; desk = w.desk; past = w.past; way = w.way ++ (w.rig ∷ []) }
  step w came = arrive w w.way
  step w (gone e) = lose w e w.way
  step w (idle e) = record { rig = w.rig; desk = unheard w.desk e; past = missed ∷ w.past; way = w.way }
  step w (torn f h) = record { rig = w.rig; desk = (o.slot w.desk f).desk; past = w.past; way = w.way }

  unfoldable pub steps : Line → List Step → Line
  steps w [] = w
  steps w (s ∷ ss) = steps (step w s) ss

-- frames built and frames that arrive whole, and nothing else
pub data Beat : Type 0 where
  build : Beat
  hand : Beat

abbrev pub beat : Beat → Step
beat build = built
beat hand = came

abbrev pub beats : List Beat → List Step
beats [] = []
beats (b ∷ bs) = beat b ∷ beats bs

-- how many are built
abbrev pub builds : List Beat → ℕ
builds [] = 0
builds (build ∷ bs) = suc (builds bs)
builds (hand ∷ bs) = builds bs
