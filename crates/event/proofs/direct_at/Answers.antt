-- `event::direct_at`: the place of an event is a number of the block's.
-- Assumes nothing.
use Rattle.std.proofs.Common.{sym, arith}
use Rattle.event.proofs.Laws.{direct_small}
use Rattle.event.proofs.direct_at.Goals as goal

pub overflow_add-result : goal.overflow_add-result
overflow_add-result c =
    omega (arith, direct_small _ _ _ _ c.in_ok-place.place (rw c.events_in.ensures at c.if-events_in-n.false) (sym c.in_ok-place.ensures))
