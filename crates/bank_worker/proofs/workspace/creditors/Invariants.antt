use Rattle.std.proofs.Common.{◌≡◌, ◌≤◌, length, map, vec_capacity}
use Rattle.std.specs.List.{range_with_len}
use Rattle.clr_net.specs.Net.{creditor_of}
use Rattle.bank_worker.proofs.workspace.creditors.Given as goal

abbrev pub invariant-loop-number : goal.invariant-loop-number
invariant-loop-number l = record {
  items : l.creditors.items ≡ map (creditor_of l.net) (range_with_len 0 l.number);
  room : length l.net.debts ≤ vec_capacity l.creditors;
}
