-- `part_names::part_name` meets its contract: the name in the row of the part.
-- Assumes nothing.
use Rattle.std.proofs.Common.{◌∙◌}
use Rattle.block.specs.declared.Part.TheVariants.{Marker}
use Rattle.block.specs.Tables.{row_of, parts}
use Rattle.block.proofs.Laws.{ranked}
use Rattle.names.proofs.Texts.{named}
use Rattle.part_names.specs.Names.{part_name}
use Rattle.part_names.proofs.Laws.{room, part_lt}
use Rattle.part_names.proofs.part_name.Goals as goal

pub returns : goal.returns
returns c =
    let x = c.args.part in
    c.name_in.ensures ∙ named part_name room parts Marker x (row_of x) c.row_of.result c.row_of.ensures (part_lt x) (ranked x)
