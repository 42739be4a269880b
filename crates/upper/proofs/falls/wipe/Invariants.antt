use Rattle.std.proofs.Common.{◌≡◌, ℕ, ◌<◌, slice_index}
use Rattle.upper.specs.Falls.{bank_at}
use Rattle.upper.proofs.falls.wipe.Given as goal

abbrev pub invariant-loop-bank : goal.invariant-loop-bank
invariant-loop-bank l = record {
  wiped : (k : ℕ) → k < l.bank-index → slice_index l.units (bank_at l.banks k) ≡ 0;
  others : (i : ℕ) → slice_index l.fn.units i ≡ 0 → slice_index l.units i ≡ 0;
}
