use Rattle.std.proofs.Common.{arith}
use Rattle.bank_worker.specs.declared.bank_set.TheConstants.{WORDS}
use Rattle.bank_worker.proofs.SetWords.{all_in}
use Rattle.bank_worker.proofs.bank_set.BankSet.all.Goals as goal

pub returns : goal.returns
returns c b l = all_in WORDS b (omega arith)
