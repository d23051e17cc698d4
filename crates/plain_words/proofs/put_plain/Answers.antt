-- `plain_words::put_plain`: no room; the name, then the settings.
-- Assumes nothing.
use Rattle.std.proofs.Common.{◌∙◌, sym, ℕ, List, subst, refl, arith}
use borrow.Author.Tests.{leb-true}
use Rattle.text.specs.Page.{Gets, RoomFor}
use Rattle.text.proofs.Puts.{gets_both, left_out}
use Rattle.plain_words.specs.Plain.{plain_of}
use Rattle.plain_words.proofs.Names.{plain_is, fitted}
use Rattle.plain_words.proofs.put_plain.Goals as goal

pub returns-then-not-has_room : goal.returns-then-not-has_room
returns-then-not-has_room c =
    let page = c.args.page.now in
    (record { same_page = refl; long = refl; puts = left_out 28 page.at (plain_of c.args.c) page.bytes.now (sym c.has_room.ensures ∙ c.if-not-has_room.true) }, omega arith)

pub put_settings-requires : goal.put_settings-requires
put_settings-requires c =
    let room = leb-true _ _ (sym c.has_room.ensures ∙ c.if-not-has_room.false) in
    omega (arith, room, c.put_name.ensures.0.long, c.put_name.ensures.1)

pub returns : goal.returns
returns c =
    let page = c.args.page.now in
    let room : RoomFor 28 page = leb-true _ _ (sym c.has_room.ensures ∙ c.if-not-has_room.false) in
    let x = c.put_name.ensures in
    let y = c.put_settings.ensures in
    let z = rw c.entry_of-e.ensures at (gets_both x.0 y.0 (omega (arith, room, x.0.puts.place, x.1))) in
    let t = subst (λ (t : List ℕ). Gets t page c.put_settings.new.page) (plain_is c.args.c) z in
    (subst (λ (t : List ℕ). Gets t page c.put_settings.new.page) (sym (fitted 28 page.at page.bytes.now (plain_of c.args.c) room)) t, omega (arith, x.1, y.1))
