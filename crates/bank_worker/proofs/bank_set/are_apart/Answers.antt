use Rattle.std.proofs.Common.{eqb-true}
use Rattle.bank_worker.proofs.SetWords.{none_in_four}
use Rattle.bank_worker.proofs.bank_set.are_apart.Goals as goal

pub returns : goal.returns
returns c = λ apart. none_in_four c.args.words.now c.args.others.now c.args.place (eqb-true _ 0 apart)
