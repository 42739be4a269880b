use Rattle.std.proofs.Common.{◌≡◌, ℕ, ◌<◌, ◌≤◌, length, slice_index}
use Rattle.upper.proofs.falls.Falls.of_all.Given as goal

abbrev pub invariant-loop-number : goal.invariant-loop-number
invariant-loop-number l = record {
  as_many : length l.falls ≡ length l.net.banks;
  fell : (i : ℕ) → i < l.number → slice_index l.falls i ≡ 1;
  later : (i : ℕ) → l.number ≤ i → slice_index l.falls i ≡ 0;
}
