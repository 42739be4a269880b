use Rattle.std.proofs.Common.{◌≡◌, ◌*◌, ◌≤◌, slice_index, sum_by, take}
use Rattle.clr_net.specs.Net.{row}
use Rattle.clr_net.specs.declared.TheConstants.{MAX_CLAIM}
use Rattle.clear_core.proofs.receipts.paid_by.Given as goal

abbrev pub invariant-loop-id : goal.invariant-loop-id
invariant-loop-id l = record {
  total_is : l.total ≡ sum_by (slice_index l.paid) (take l.id-index (row l.net l.fn.bank.0));
  in_limit : l.total ≤ l.id-index * MAX_CLAIM;
}
