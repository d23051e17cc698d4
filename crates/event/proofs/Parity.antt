-- Bench case l: an item whose second word is 8004h is good, 8000h bad.
-- Computed from the definition that `ifft_item` is proved to meet. Assumes nothing.
use mathlib.Core.Path.{◌≡◌, refl}
use mathlib.Core.Bool.{true, false}
use mathlib.Core.List.{[], ◌∷◌}
use lib.Count.{ones, ones_in}
use Rattle.event.specs.Ifft.{item_at}

pub good_8004 : (item_at (0 ∷ 0 ∷ 0x80 ∷ 0x04 ∷ []) 0).good ≡ true
unfolding ones ones_in
good_8004 = refl

pub bad_8000 : (item_at (0 ∷ 0 ∷ 0x80 ∷ 0x00 ∷ []) 0).good ≡ false
unfolding ones ones_in
bad_8000 = refl
