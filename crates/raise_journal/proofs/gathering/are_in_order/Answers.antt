use Rattle.std.proofs.Common.{arith}
use Rattle.raise_journal.proofs.Merged.{in_turn_whole}
use Rattle.raise_journal.proofs.gathering.are_in_order.Goals as goal

pub returns : goal.returns
returns c = λ _. in_turn_whole c.args.raises.now c.loop-place.place (omega (arith, c.loop-place-test.false)) c.loop-place.invariant
