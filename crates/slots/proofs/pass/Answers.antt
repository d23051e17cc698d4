-- `slots::pass` meets its contract: a written frame had room, stands at the named place, and is what the desk makes its slot of.
-- Assumes nothing.
use Rattle.std.proofs.Common.{◌≡◌, Ok, sym, ap, ◌∙◌}
use Rattle.frame.specs.Write.{wrote_of}
use Rattle.slots.specs.declared.Sent.{Sent}
use Rattle.slots.proofs.Place.{passed_on}
use Rattle.slots.proofs.pass.Goals as goal

pub returns-in-Ok : goal.returns-in-Ok
returns-in-Ok g c =
    let a = c.args in
    let b = c.build-sent.ensures in
    let e : wrote_of a.at a.buf.now ≡ Ok tt = sym (ap (λ (x : Sent). x.wrote) b.0) ∙ c.in-Ok.is in
    (simp (c.pass-passed.ensures, b.0, b.1) (passed_on g.S.Slot.made a.bench a.buf.now a.at e), b.1)
