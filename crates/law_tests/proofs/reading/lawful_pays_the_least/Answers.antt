use Rattle.clr_net.specs.Samples.{chain}
use Rattle.law_tests.specs.Nets.{two_ordered}
use Rattle.law_tests.proofs.WorkFacts.{is_lawful}
use Rattle.law_tests.proofs.reading.lawful_pays_the_least.Goals as goal

pub returns : goal.returns
returns c = c.lawful_journals_pay_the_least.ensures chain two_ordered c.chain_is_network.ensures is_lawful
