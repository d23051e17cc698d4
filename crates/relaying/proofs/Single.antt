-- Single outcome: two results that meet a function's own contract at the same arguments are equal.
-- Stated of the contract that the checker makes of the source (`Reads.Post`), so that it cannot drift from it. Assumes nothing.
use mathlib.Core.Path.{◌≡◌}
use Prim.Native.Nat.{ℕ}
use mathlib.Core.Bool.{Bool}
use Rattle.base.proofs.Single.{same}
use Rattle.supply.specs.declared.Supply.{Supply}
use Rattle.supply.specs.Shapes.{RelayWord}
use Rattle.relaying.proofs.relay_of.Reads as relay-of
use Rattle.relaying.proofs.set_relay.Reads as set-relay

pub relay_of_one : (low : ℕ) (r q : RelayWord) → relay-of.Post tt (low, tt) r (low, tt) → relay-of.Post tt (low, tt) q (low, tt) → r ≡ q
relay_of_one low r q m n = same m n

pub set_relay_one : (s : Supply) (on : Bool) (r q : Supply) → set-relay.Post tt (s, (on, tt)) r (s, (on, tt)) → set-relay.Post tt (s, (on, tt)) q (s, (on, tt)) → r ≡ q
set_relay_one s on r q m n = same m n
