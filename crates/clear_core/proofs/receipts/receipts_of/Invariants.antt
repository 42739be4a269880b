use Rattle.std.proofs.Common.{◌≡◌, ◌*◌, ◌≤◌, slice_index, sum_by, take}
use Rattle.clr_net.specs.Net.{column}
use Rattle.clr_net.specs.declared.TheConstants.{MAX_CLAIM}
use Rattle.clear_core.proofs.receipts.receipts_of.Given as goal

abbrev pub invariant-loop-id : goal.invariant-loop-id
invariant-loop-id l = record {
  received_is : l.received ≡ sum_by (slice_index l.paid) (take l.id-index (column l.net l.fn.bank.0));
  in_limit : l.received ≤ l.id-index * MAX_CLAIM;
}
