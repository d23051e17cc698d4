-- What we call ours is what our functions do: each contract says so.
-- Assumes nothing.
use mathlib.Core.Path.{◌≡◌, ◌∙◌, ap}
use mathlib.Core.List.{List}
use Prim.Native.Nat.{ℕ}
use contract.Lifetimes.{Lfts}
use denote.Ref.{Bor}
use Rattle.block.specs.declared.Part.{Part}
use Rattle.block.specs.Shapes.{Located}
use Rattle.block.specs.Parts.{bytes_of, part_of}
use Rattle.locating.proofs.locate.Reads as locate-fn
use Rattle.locating.proofs.slice_of.Reads as slice-fn
use Rattle.demands.specs.Ours.{OurOutfit, OurBlocks, OurWords}

pub our_outfit : OurOutfit
our_outfit =
    record {
      start = λ r m. m;
      take = λ r w t m. m;
      spin = λ r q m. m;
      set = λ r s q m. m;
      cut = λ r q m. m;
      build = λ κs a e b m. m;
      fresh = λ d m. m;
      slot = λ κs a e x m. m;
      missed = λ d q m. m;
      look = λ d item x m. m;
      asks_start = tt;
      asks_take = λ r w. tt;
      asks_spin = λ r. tt;
      asks_set = λ r s. tt;
      asks_cut = λ r. tt;
      asks_build = λ κs a. tt;
      asks_fresh = tt;
      asks_slot = λ κs a. tt;
      asks_missed = λ d. tt;
      asks_look = λ d item. tt;
    }

part_sliced : (κs : Lfts 1) (b : Bor (List ℕ)) (p : Part) (l : Located) (x : Bor (List ℕ)) → locate-fn.Post κs (b, (p, tt)) l (b, (p, tt))
    → slice-fn.Post κs (b, (l, tt)) x (b, (l, tt)) → x.now ≡ part_of b.now p
unfolding part_of
part_sliced κs b p l x m n = n ∙ ap (bytes_of b.now) m

pub our_blocks : OurBlocks
our_blocks =
    record {
      locate = λ κs b p x m. m;
      place = λ l p x m. m;
      part = part_sliced;
      event = λ κs b n x m. m;
      ifft_event = λ κs b n x m. m;
      ifft_item = λ κs b n x m. m;
      check = λ κs b x m. m;
      sheet = λ x y s m. m;
      word_number = λ r n m. m;
      frame_number = λ r n m. m;
      block_number = λ r n m. m;
      asks_locate = λ κs b p. tt;
      asks_place = λ l p. tt;
      asks_slice = λ κs b l. tt;
      asks_event = λ κs b n. tt;
      asks_ifft_event = λ κs b n. tt;
      asks_ifft_item = λ κs b n. tt;
      asks_check = λ κs b. tt;
      asks_sheet = λ x y. tt;
      asks_word_number = λ r. tt;
      asks_frame_number = λ r. tt;
      asks_block_number = λ r. tt;
    }

pub our_words : OurWords
our_words =
    record {
      write = λ κs a e x m. m;
      read = λ κs ws x m. m;
      wording_number = λ r n m. m;
      asks_write = λ κs a. tt;
      asks_read = λ κs ws. tt;
      asks_wording_number = λ r. tt;
    }
