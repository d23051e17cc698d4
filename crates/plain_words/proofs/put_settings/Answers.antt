-- `plain_words::put_settings`: both settings, one after the other.
-- Assumes nothing.
use Rattle.std.proofs.Common.{◌∙◌, arith}
use borrow.Author.Tests.{ne_eqb}
use Rattle.text.proofs.Puts.{gets_both}
use Rattle.menu_rows.specs.Rows.{wanted}
use Rattle.plain_words.proofs.put_settings.Goals as goal

pub returns : goal.returns
returns c =
    let n = c.settings-wanted.ensures in
    let x = c.put_setting.ensures in
    let y = c.put_setting-2.ensures in
    rw (ne_eqb (wanted c.args.e.row) 0 (λ q. c.if-wanted-eq0.false (n ∙ q)), ne_eqb (wanted c.args.e.row) 1 (λ q. c.if-wanted-eq1.false (n ∙ q))) (gets_both x.0 y.0 (omega (arith, x.0.puts.place, x.1)), omega (arith, x.1, y.1))
