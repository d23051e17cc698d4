-- `menu_names::name_of`: the name in the row.
-- Assumes nothing.
use Rattle.std.proofs.Common.{◌∙◌}
use Rattle.menu_names.specs.Names.{name_of, name_words}
use Rattle.menu_names.proofs.Rows.{in_row}
use Rattle.menu_names.proofs.name_of.Goals as goal

pub returns : goal.returns
unfolding name_of name_words
returns c = c.name_in.ensures ∙ in_row c.args.row
