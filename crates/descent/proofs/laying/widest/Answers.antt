use Rattle.std.proofs.Common.{arith}
use Rattle.clr_net.proofs.Networks.{all_cash_le}
use Rattle.descent.proofs.laying.widest.Goals as goal

pub overflow_mul-cash_total : goal.overflow_mul-cash_total
overflow_mul-cash_total g c =
    omega (arith, all_cash_le c.lay_in-in-loop-high.new.laid c.lay_in-in-loop-high.ensures.network)

pub overflow_mul-own : goal.overflow_mul-own
overflow_mul-own g c = omega (arith, all_cash_le c.lay_in.new.laid c.lay_in.ensures.network)
