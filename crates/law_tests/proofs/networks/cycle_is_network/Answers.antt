use Rattle.law_tests.specs.Nets.{cycle, cycle_banks, cycle_debts}
use Rattle.law_tests.proofs.ProcessFacts.{cycle_reads}
use Rattle.net_check.specs.declared.limits.Limits.TheVariants as limits
use Rattle.law_tests.proofs.networks.cycle_is_network.Goals as goal

pub returns : goal.returns
returns c =
    c.reading_gives_a_network.ensures.network limits.Standard
    cycle_banks cycle_debts cycle cycle_reads
