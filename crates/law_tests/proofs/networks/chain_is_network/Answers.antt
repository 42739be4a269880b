use Rattle.clr_net.specs.Samples.{chain}
use Rattle.net_csv.specs.Cases.{chain_banks, chain_debts, chain_reads}
use Rattle.net_check.specs.declared.limits.Limits.TheVariants as limits
use Rattle.law_tests.proofs.networks.chain_is_network.Goals as goal

pub returns : goal.returns
returns c =
    c.reading_gives_a_network.ensures.network limits.Standard
    chain_banks chain_debts chain chain_reads
