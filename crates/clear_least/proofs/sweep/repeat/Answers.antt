use Rattle.std.proofs.Common.{arith}
use Rattle.std.proofs.lemmas.Bool.{OnTrue_at}
use Rattle.clear_least.proofs.Way.{way_within_owed}
use Rattle.clear_least.proofs.sweep.repeat.Goals as goal

pub loop-smaller : goal.loop-smaller
loop-smaller g c =
    let net = c.args.net.now in
    let after = c.sweep.new in
    omega (
      arith,
      OnTrue_at c.loop-test.true c.sweep.ensures.more,
      way_within_owed net (g.S.Spending.spends c.args.spending.now net) after.payments.paid
          c.sweep.ensures.swept.way,
    )
