use Rattle.rescue.proofs.Bound.{bound_is_below, receives_at_most}
use Rattle.rescue.proofs.laws.no_sum_below_the_bound_saves.Goals as goal

pub returns : goal.returns
returns c net i a network bank =
    (receives_at_most net i a network bank, bound_is_below net i a network bank)
