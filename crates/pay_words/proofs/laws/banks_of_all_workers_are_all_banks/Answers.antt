use Rattle.pay_words.proofs.Places.{holds_all_of_each}
use Rattle.pay_words.proofs.laws.banks_of_all_workers_are_all_banks.Goals as goal

pub returns : goal.returns
returns c = holds_all_of_each
