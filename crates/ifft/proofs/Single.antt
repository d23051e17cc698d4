-- Single outcome: two results that meet a function's own contract at the same arguments are equal.
-- Stated of the contract that the checker makes of the source (`Reads.Post`). Assumes nothing.
use mathlib.Core.Path.{◌≡◌}
use mathlib.Core.List.{List}
use Prim.Native.Nat.{ℕ}
use contract.Lifetimes.{Lfts}
use denote.Ref.{Bor}
use Rattle.base.proofs.Single.{same}
use Rattle.event.specs.Shapes.{Evented, Itemed}
use Rattle.ifft.proofs.ifft_event.Reads as ifft-event
use Rattle.ifft.proofs.ifft_item.Reads as ifft-item

module _ (κs : Lfts 1) (b : Bor (List ℕ)) (n : ℕ) where
  pub ifft_event_one : (r q : Evented) → ifft-event.Post κs (b, (n, tt)) r (b, (n, tt)) → ifft-event.Post κs (b, (n, tt)) q (b, (n, tt)) → r ≡ q
  ifft_event_one r q m k = same m k

  pub ifft_item_one : (r q : Itemed) → ifft-item.Post κs (b, (n, tt)) r (b, (n, tt)) → ifft-item.Post κs (b, (n, tt)) q (b, (n, tt)) → r ≡ q
  ifft_item_one r q m k = same m k
