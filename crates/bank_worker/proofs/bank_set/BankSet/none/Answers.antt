use Rattle.bank_worker.specs.declared.bank_set.TheConstants.{WORDS}
use Rattle.bank_worker.proofs.SetWords.{none_in}
use Rattle.bank_worker.proofs.bank_set.BankSet.none.Goals as goal

pub returns : goal.returns
returns c b = none_in WORDS b
