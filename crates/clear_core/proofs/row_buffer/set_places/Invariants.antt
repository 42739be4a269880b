use Rattle.std.proofs.Common.{◌≡◌, vec_len, vec_capacity}
use Rattle.clear_core.proofs.row_buffer.set_places.Given as goal

abbrev pub invariant-loop : goal.invariant-loop
invariant-loop l = record {
  places : vec_len l.amounts ≡ l.counter;
  room : vec_capacity l.amounts ≡ vec_capacity l.fn.amounts;
}
