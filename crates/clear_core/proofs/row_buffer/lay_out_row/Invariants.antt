use Rattle.std.proofs.Common.{◌≡◌, map, take, vec_capacity}
use Rattle.clr_net.specs.Net.{row, claim_of, class_of}
use Rattle.clear_core.proofs.row_buffer.lay_out_row.Given as goal

abbrev pub invariant-loop-id : goal.invariant-loop-id
invariant-loop-id l = record {
  claims_laid : l.claims.items ≡ map (claim_of l.net) (take l.id-index (row l.net l.fn.bank.0));
  classes_laid : l.classes.items ≡ map (class_of l.net) (take l.id-index (row l.net l.fn.bank.0));
  room_of_claims : vec_capacity l.claims ≡ vec_capacity l.fn.claims;
  room_of_classes : vec_capacity l.classes ≡ vec_capacity l.fn.classes;
}
