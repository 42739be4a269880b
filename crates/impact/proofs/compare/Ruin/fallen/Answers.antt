use Rattle.std.proofs.Common.{arith}
use Rattle.impact.proofs.Hurts.{fallen_more}
use Rattle.impact.proofs.compare.Ruin.fallen.Goals as goal

pub loop-number-preserved : goal.loop-number-preserved
loop-number-preserved c =
    let one = fallen_more c.args.self.now.net.now c.args.self.now.ruined.0 c.loop-number.number c.loop-number.count
    c.from-count.result c.has_fallen.result c.loop-number.invariant.counted c.from-count.ensures
    c.has_fallen.ensures in
    record { counted = one.0; few = omega (arith, one.1, c.loop-number.invariant.few) }
