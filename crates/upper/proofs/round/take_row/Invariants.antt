use Rattle.std.proofs.Common.{slice_index}
use Rattle.clr_net.specs.Amounts.{IsAtMost}
use Rattle.clear_core.proofs.WrittenRows.{IsWritten}
use Rattle.upper.specs.Descent.{AreNoted}
use Rattle.upper.proofs.round.take_row.Given as goal

abbrev pub invariant-loop-id : goal.invariant-loop-id
invariant-loop-id l = record {
  written : IsWritten l.net l.fn.bank.0 (slice_index l.next) l.fn.paid l.paid l.id-index;
  lower : IsAtMost l.next l.paid;
  noted : AreNoted l.net l.fn.paid l.paid l.fn.falls l.falls;
}
