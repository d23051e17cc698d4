-- One step more of the words left to be sent, and of the spins left.
-- Assumes nothing.
use mathlib.Core.Path.{◌≡◌}
use mathlib.Core.List.{List}
use Prim.Native.Nat.{ℕ, ◌+◌, ◌-◌, ◌<◌, ◌≤◌, suc}
use native.Mathlib.Omega.{arith}
use native.Mathlib.Numerals.{add-one}
use lib.ListN.{length, drop, get_or, drop_of_length-le}
use lib.Seq.{drop-cons}
use Rattle.bench.specs.declared.Bench.{Bench}
use Rattle.bench.specs.Bench.{spun_bench}
use Rattle.steps.specs.Steps.{sent_one, sent_all, spun_times}

pub sent_next : (b : Bench) (ws : List ℕ) (i : ℕ) → i < length ws → sent_all b (drop i ws) ≡ sent_all (sent_one b (get_or ws i 0)) (drop (i + 1) ws)
unfolding sent_all
sent_next b ws i h = rw (add-one, drop-cons ws i 0 h)

pub sent_end : (b : Bench) (ws : List ℕ) (i : ℕ) → length ws ≤ i → sent_all b (drop i ws) ≡ b
unfolding sent_all
sent_end b ws i h = rw (drop_of_length-le ws h)

pub spun_next : (b : Bench) (n i : ℕ) → i < n → spun_times b (n - i) ≡ spun_times (spun_bench b) (n - (i + 1))
unfolding spun_times
spun_next b n i h = let e : n - i ≡ suc (n - (i + 1)) = omega arith in rw e

pub spun_end : (b : Bench) (n i : ℕ) → n ≤ i → spun_times b (n - i) ≡ b
unfolding spun_times
spun_end b n i h = let e : n - i ≡ 0 = omega arith in rw e
