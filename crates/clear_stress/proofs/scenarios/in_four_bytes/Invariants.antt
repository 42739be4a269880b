use Rattle.std.proofs.Common.{◌≡◌, ◌≤◌, length, take, vec_capacity, vec_len}
use Rattle.clear_stress.proofs.scenarios.in_four_bytes.Given as goal

abbrev pub invariant-loop-units : goal.invariant-loop-units
invariant-loop-units l = record {
  items : l.kept.items ≡ take l.units-index l.paid;
  len : vec_len l.kept ≡ l.units-index;
  room : length l.paid ≤ vec_capacity l.kept;
}
