use Rattle.clr_net.specs.Samples.{chain}
use Rattle.law_tests.specs.Nets.{richer}
use Rattle.law_tests.proofs.process.two_more_pay_no_less.Goals as goal

pub returns : goal.returns
returns c = c.richer_banks_pay_no_less.ensures chain richer (c.cash_makes_no_bank_pay_less.ensures chain 0 2)
