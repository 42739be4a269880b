use Rattle.std.proofs.Common.{◌≡◌, ◌-◌, length}
use Rattle.clear_core.specs.Buffers.{HasRoom}
use Rattle.clear_core.specs.Sums.{HaveSums}
use Rattle.cascade.specs.MoreCash.{IsOfOtherCash}
use Rattle.stress.proofs.Descent.{IsDown}
use Rattle.stress.proofs.broken.go_down.Given as goal

abbrev pub invariant-loop-step : goal.invariant-loop-step
invariant-loop-step l = record {
  down : IsDown l.net l.high (l.high - l.step) l.room.payments.paid l.all;
  sums : HaveSums l.net l.room.payments;
  alike : IsOfOtherCash l.net l.room.left;
  room : HasRoom l.net l.room.scratch;
  marked : length l.room.marks.items ≡ length l.net.banks;
}
