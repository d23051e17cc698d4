-- Single outcome: two results that meet a function's own contract at the same arguments are equal.
-- Stated of the contract that the checker makes of the source (`Reads.Post`). Assumes nothing.
use mathlib.Core.Path.{◌≡◌}
use Prim.Native.Nat.{ℕ}
use Rattle.base.proofs.Single.{same}
use Rattle.power.specs.declared.PanelSetting.{PanelSetting}
use Rattle.bench.specs.declared.Bench.{Bench}
use Rattle.bench.specs.declared.Worded.{Worded}
use Rattle.bench.proofs.fresh.Reads as fresh
use Rattle.bench.proofs.word.Reads as word
use Rattle.bench.proofs.spin.Reads as spin
use Rattle.bench.proofs.set.Reads as set
use Rattle.bench.proofs.power_cut.Reads as power-cut

pub fresh_one : (r q : Bench) → fresh.Post tt tt r tt → fresh.Post tt tt q tt → r ≡ q
fresh_one r q m n = same m n

module _ (b : Bench) where
  pub word_one : (w : ℕ) (r q : Worded) → word.Post tt (b, (w, tt)) r (b, (w, tt)) → word.Post tt (b, (w, tt)) q (b, (w, tt)) → r ≡ q
  word_one w r q m n = same m n

  pub spin_one : (r q : Bench) → spin.Post tt (b, tt) r (b, tt) → spin.Post tt (b, tt) q (b, tt) → r ≡ q
  spin_one r q m n = same m n

  pub set_one : (s : PanelSetting) (r q : Bench) → set.Post tt (b, (s, tt)) r (b, (s, tt)) → set.Post tt (b, (s, tt)) q (b, (s, tt)) → r ≡ q
  set_one s r q m n = same m n

  pub power_cut_one : (r q : Bench) → power-cut.Post tt (b, tt) r (b, tt) → power-cut.Post tt (b, tt) q (b, tt) → r ≡ q
  power_cut_one r q m n = same m n
