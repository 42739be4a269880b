use Rattle.std.proofs.Common.{length, arith}
use Rattle.stress.proofs.Outcomes.{falls_within}
use Rattle.stress.proofs.laws.no_bank_falls_more_often.Goals as goal

pub returns : goal.returns
returns c = λ net all. falls_within net all (length all) (omega arith)
