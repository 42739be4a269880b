use Rattle.clear_core.specs.Buffers.{AreInLimit}
use Rattle.clear_core.specs.Sums.{AreSumsBut}
use Rattle.clear_core.proofs.Raising.{IsRaisedTo}
use Rattle.clear_core.proofs.scratch.raise.Given as goal

abbrev pub invariant-loop-place : goal.invariant-loop-place
invariant-loop-place l = record {
  raised : IsRaisedTo l.net l.fn.bank.0 l.awards l.fn.paid l.paid l.fn.marks l.marks l.place;
  in_limit : AreInLimit l.paid;
  sums : AreSumsBut l.net l.fn.bank.0 l.paid l.sums;
}
