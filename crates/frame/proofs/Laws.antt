-- The laws of the frame hold.
-- Assumes nothing.
use Rattle.std.specs.Prelude.{Some, None}
use mathlib.Core.Path.{◌≡◌, refl, ap, ◌∙◌}
use mathlib.Core.Bool.{true, false}
use Prim.Native.Nat.{ℕ, ◌%◌}
use native.Mathlib.Nat.{mod-eq_of_lt}
use lib.Dec.{eqb}
use borrow.Author.Tests.{eqb-true}
use Rattle.frame.specs.declared.Held.{Held}
use Rattle.frame.specs.Items.{held_at}
use Rattle.frame.specs.Write.{frame_of}
use Rattle.frame.specs.Read.{rem_of, phase_of, is_plain, carries, index_of, read_of}
use Rattle.frame.specs.Laws.{Fits, Laws}
use Rattle.frame.proofs.Rows.{rounds, plain_lt, plain_items}
use Rattle.frame.proofs.Came.{no_other}
use Rattle.frame.proofs.Back.{field_back}
use Rattle.frame.proofs.Tells.{hides, long_is, free_is, unlatched, stays, whole, no_fill}
use Rattle.frame.proofs.Zeros.{zeros, masked}
use Rattle.frame.proofs.Unread.{index_same, read_same, spread_same}

module _ (h : Held) (i l k : ℕ) (b : is_plain k ≡ true) where
  carried : carries k (index_of (frame_of h i l)) ≡ carries k i
  unfolding frame_of
  carried =
      ap (λ (n : ℕ). eqb n (phase_of k)) (rounds k (plain_lt k b) (i % 32) ∙ rounds k (plain_lt k b) i)

  back : carries k i ≡ true → read_of (frame_of h i l) k ≡ Some (held_at h k % rem_of k)
  unfolding read_of
  back e = unfold frame_of in rw (b, carried ∙ e) (ap Some (field_back h i l k b (eqb-true _ _ e)))

  exact : Fits h → carries k i ≡ true → read_of (frame_of h i l) k ≡ Some (held_at h k)
  exact f e = back e ∙ value (mod-eq_of_lt (f.plain k b))
    where
      value : {m n : ℕ} → m ≡ n → Some m ≡ Some n
      value q = ap Some q

  silent : carries k i ≡ false → read_of (frame_of h i l) k ≡ None
  unfolding read_of
  silent e = unfold frame_of in rw (b, carried ∙ e)

pub laws : Laws
laws =
    record {
      plain = plain_items;
      back = back;
      exact = λ h i l k f b. exact h i l k b f;
      silent = silent;
      hides = λ h g i l k b. hides h g i l k;
      long = long_is;
      free = free_is;
      unlatched = unlatched;
      stays = stays;
      no_other = no_other;
      whole = whole;
      no_fill = no_fill;
      unread = λ f g a k. (index_same f g a, read_same f g a k);
      unread_spread = spread_same;
      zeros = λ h i l b k f. zeros h i l f b k;
      masked = masked;
      numbers = (refl, refl);
    }
