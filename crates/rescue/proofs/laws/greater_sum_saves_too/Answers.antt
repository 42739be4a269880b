use Rattle.rescue.proofs.LeastSum.{more_saves}
use Rattle.rescue.proofs.laws.greater_sum_saves_too.Goals as goal

pub returns : goal.returns
returns c = λ net i a b network l saved. more_saves net i network a b l saved
