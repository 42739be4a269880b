use Rattle.law_tests.specs.Nets.{two, two_ordered}
use Rattle.law_tests.proofs.ProcessFacts.{permuted, in_steps}
use Rattle.law_tests.proofs.process.two_raises_have_one_order.Goals as goal

pub returns : goal.returns
returns c = c.order_is_the_only_one.ensures two two_ordered permuted in_steps
