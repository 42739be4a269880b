use Rattle.std.proofs.Common.{arith}
use Rattle.clear_core.proofs.Rows.{longest_of_all}
use Rattle.clear_core.proofs.scratch.longest_row.Goals as goal

pub returns-clause-room : goal.returns-clause-room
returns-clause-room c = longest_of_all c.args.net.now c.loop-number.longest c.banks-number-end.ensures.network
    (λ i l. c.loop-number.invariant.room i (omega arith))
