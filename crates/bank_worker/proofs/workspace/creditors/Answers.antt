use Rattle.std.proofs.Common.{length, ap, sym, ◌∙◌, arith}
use Rattle.std.proofs.lemmas.List.FromFn.{length-map-range_with_len, map-range_with_len_more}
use Rattle.clr_net.specs.Net.{creditor_of}
use Rattle.bank_worker.proofs.workspace.creditors.Goals as goal

pub push_reserved-requires : goal.push_reserved-requires
push_reserved-requires c =
    omega (arith, c.loop-number.invariant.room, ap length c.loop-number.invariant.items, length-map-range_with_len (creditor_of c.args.net.now) 0 c.loop-number.number, c.debts-number-end.ensures.debts)

pub loop-number-preserved : goal.loop-number-preserved
loop-number-preserved c = record {
  items = c.push_reserved.ensures.items ∙ rw (c.loop-number.invariant.items, c.creditor.ensures)
      (sym (map-range_with_len_more (creditor_of c.args.net.now) 0 c.loop-number.number c.loop-number.number (omega arith)));
  room = omega (arith, c.push_reserved.ensures.capacity, c.loop-number.invariant.room);
}
