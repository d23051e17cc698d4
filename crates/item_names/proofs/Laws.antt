-- The laws of the names hold: computed over the rows, and taken to the items.
-- Assumes nothing.
use Rattle.std.specs.Prelude.{Some}
use mathlib.Core.Path.{◌≡◌, ap, subst}
use Prim.Native.Nat.{ℕ}
use lib.Dec.{eqb, eqb→eq}
use lib.ListN.{length}
use borrow.Author.Tests.{lt-ltb, le-ltb}
use Rattle.base.proofs.Table.{below}
use Rattle.frame.specs.declared.Item.{Item}
use Rattle.frame.specs.Items.{items, row_of}
use Rattle.frame.proofs.Rows.{item_at, item_at_lem, row_lt}
use Rattle.names.proofs.Texts.{apart}
use Rattle.item_names.specs.Names.{name_of}
use Rattle.item_names.specs.Laws.{Laws}

pub room : (x : Item) → length (name_of x) ≡ 20
room x =
    subst (λ (y : Item). length (name_of y) ≡ 20) (item_at_lem x)
    (eqb→eq _ _ (below (λ (k : ℕ). eqb (length (name_of (item_at k))) 20) items tt (row_of x) (row_lt x)))

pub laws : Laws
laws =
    record {
      found = λ x. rw (lt-ltb _ _ (row_lt x)) (ap Some (item_at_lem x));
      past = λ k h. rw (le-ltb _ _ h);
      apart = apart name_of item_at row_of item_at_lem items row_lt tt;
      room = room;
    }
