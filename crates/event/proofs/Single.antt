-- Single outcome: two results that meet a function's own contract at the same arguments are equal.
-- Stated of the contract that the checker makes of the source (`Reads.Post`). Assumes nothing.
use mathlib.Core.Path.{◌≡◌}
use mathlib.Core.List.{List}
use Prim.Native.Nat.{ℕ}
use contract.Lifetimes.{Lfts}
use denote.Ref.{Bor}
use Rattle.base.proofs.Single.{same}
use Rattle.event.specs.Shapes.{Entry, Evented}
use Rattle.event.proofs.event_in.Reads as event-in
use Rattle.event.proofs.direct_event.Reads as direct-event

module _ (κs : Lfts 1) (b : Bor (List ℕ)) (n : ℕ) where
  pub direct_event_one : (r q : Evented) → direct-event.Post κs (b, (n, tt)) r (b, (n, tt)) → direct-event.Post κs (b, (n, tt)) q (b, (n, tt)) → r ≡ q
  direct_event_one r q m k = same m k

module _ (κs : Lfts 1) (b : Bor (List ℕ)) (e : Entry) where
  pub event_in_one : (r q : Evented) → event-in.Post κs (b, (e, tt)) r (b, (e, tt)) → event-in.Post κs (b, (e, tt)) q (b, (e, tt)) → r ≡ q
  event_in_one r q m k = same m k
