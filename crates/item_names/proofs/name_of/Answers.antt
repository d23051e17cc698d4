-- `item_names::name_of` meets its contract: the name in the row of the item.
-- Assumes nothing.
use Rattle.std.proofs.Common.{◌∙◌}
use Rattle.frame.specs.declared.Item.TheVariants.{Parallel}
use Rattle.frame.specs.Items.{row_of, all_items}
use Rattle.frame.proofs.Rows.{item_at_lem, row_lt}
use Rattle.names.proofs.Texts.{named}
use Rattle.item_names.specs.Names.{name_of}
use Rattle.item_names.proofs.Laws.{room}
use Rattle.item_names.proofs.name_of.Goals as goal

pub returns : goal.returns
returns c =
    let x = c.args.item in
    c.name_in.ensures ∙ named name_of room all_items Parallel x (row_of x) c.row_of.result c.row_of.ensures (row_lt x) (item_at_lem x)
