use Rattle.std.proofs.Common.{sum_by, ap, arith}
use Rattle.clear_core.specs.Clearing.{least}
use Rattle.clear_core.proofs.Least.{least_clears}
use Rattle.cascade.specs.Standings.{bank_numbers, equity, outside_paid}
use Rattle.cascade.proofs.MoreCash.{all_kept_is}
use Rattle.cascade.proofs.Sums.{sum_by-add}
use Rattle.stress.specs.Shocks.{shocked}
use Rattle.stress.proofs.Kept.{length-shocked_from}
use Rattle.stress.proofs.Outcomes.{same_numbers}
use Rattle.stress.proofs.laws.scenario_adds_up.Goals as goal

pub returns : goal.returns
returns c net s network =
    let left = shocked net s in
    let P = least left in
    let as_many = length-shocked_from s.cut 0 s.losses net.banks in
    omega (
      arith,
      all_kept_is net network left.banks P (least_clears left) as_many,
      sum_by-add (equity left P) (outside_paid left P) (bank_numbers net),
      ap (sum_by (equity left P)) (same_numbers net s),
      ap (sum_by (outside_paid left P)) (same_numbers net s),
    )
