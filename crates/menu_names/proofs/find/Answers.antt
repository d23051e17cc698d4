-- `menu_names::find`: the first row that is called so.
-- Assumes nothing.
use Rattle.std.proofs.Common.{◌≡◌, true, false, rules}
use Rattle.std.proofs.lemmas.Iterator.{first_from_Range}
use Rattle.menu_names.specs.Names.{name_words, called}
use Rattle.menu_names.proofs.Rows.{first_named}
use Rattle.menu_names.proofs.find.Goals as goal

pub returns : goal.returns
returns c =
    let first = c.args.first.now in
    let second = c.args.second.now in
    first_named first second c.find.result (
    first_from_Range _ _ _ c.find.result (λ row. called (name_words row) first second ≡ true) (λ row. called (name_words row) first second ≡ false) c.find.ensures.ran (λ x q k. search rules) (λ x q k. (search rules, search rules)))
