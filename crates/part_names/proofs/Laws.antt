-- The laws of the names hold: computed over the table, and taken to the parts.
-- Assumes nothing.
use Rattle.std.specs.Prelude.{Some}
use mathlib.Core.Path.{◌≡◌, ap}
use Prim.Native.Nat.{ℕ, ◌<◌}
use lib.Dec.{eqb, ltb, eqb→eq, ltb→lt}
use lib.ListN.{length, get_or}
use borrow.Author.Tests.{lt-ltb, le-ltb}
use Rattle.block.specs.declared.Part.{Part}
use Rattle.block.specs.declared.Part.TheVariants.{Marker}
use Rattle.block.specs.Tables.{row_of, parts}
use Rattle.block.proofs.Laws.{ranked, every_part}
use Rattle.names.proofs.Texts.{apart}
use Rattle.part_names.specs.Names.{part_name}
use Rattle.part_names.specs.Laws.{Laws}

abbrev part_at : ℕ → Part
part_at k = get_or parts k Marker

pub part_lt : (p : Part) → row_of p < 19
part_lt p = ltb→lt _ _ (every_part (λ q. ltb (row_of q) 19) tt p)

pub room : (p : Part) → length (part_name p) ≡ 20
room p = eqb→eq _ _ (every_part (λ q. eqb (length (part_name q)) 20) tt p)

pub laws : Laws
laws =
    record {
      found = λ p. rw (lt-ltb _ _ (part_lt p)) (ap Some (ranked p));
      past = λ n h. rw (le-ltb _ _ h);
      apart = apart part_name part_at row_of ranked 19 part_lt tt;
      room = room;
    }
