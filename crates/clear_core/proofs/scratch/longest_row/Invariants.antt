use Rattle.std.proofs.Common.{ℕ, ◌<◌, ◌≤◌, length}
use Rattle.clr_net.specs.Net.{row}
use Rattle.clear_core.specs.Buffers.{HasRoom}
use Rattle.clear_core.proofs.scratch.longest_row.Given as goal

abbrev pub invariant-loop-number : goal.invariant-loop-number
invariant-loop-number l = record {
  room : (i : ℕ) → i < l.number → length (row l.net i) ≤ l.longest;
  no_more : (room : ℕ) → HasRoom l.net room → l.longest ≤ room;
}
