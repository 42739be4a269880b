use Rattle.std.proofs.Common.{◌≡◌, ℕ, ◌+◌, ◌<◌, slice_index}
use Rattle.compress.proofs.compression.write_at.Given as goal

abbrev pub invariant-loop-bank : goal.invariant-loop-bank
invariant-loop-bank l = record {
  written : (b : ℕ) → b < l.bank → slice_index l.ranks (l.place + b) ≡ slice_index l.numbers b;
  others : (k : ℕ) → k < l.place → slice_index l.ranks k ≡ slice_index l.fn.ranks k;
}
