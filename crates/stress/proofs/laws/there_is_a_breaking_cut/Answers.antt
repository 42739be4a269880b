use Rattle.stress.proofs.Milder.{breaking_cut_is}
use Rattle.stress.proofs.laws.there_is_a_breaking_cut.Goals as goal

pub returns : goal.returns
returns c = breaking_cut_is
