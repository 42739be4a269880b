use Rattle.std.proofs.Common.{arith}
use Rattle.stress.proofs.laws.breaking_cut_is_the_only_one.Goals as goal

pub returns : goal.returns
returns _ net i c d r s =
    grind (arith, r.within, s.within, r.breaks, s.breaks, r.least d, s.least c)
