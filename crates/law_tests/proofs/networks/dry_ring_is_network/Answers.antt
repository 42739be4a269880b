use Rattle.law_tests.specs.Nets.{dry_ring, dry_banks, dry_debts}
use Rattle.law_tests.proofs.ProcessFacts.{dry_reads}
use Rattle.net_check.specs.declared.limits.Limits.TheVariants as limits
use Rattle.law_tests.proofs.networks.dry_ring_is_network.Goals as goal

pub returns : goal.returns
returns c =
    c.reading_gives_a_network.ensures.network limits.Standard
    dry_banks dry_debts dry_ring dry_reads
