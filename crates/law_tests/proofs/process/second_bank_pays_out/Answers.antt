use Rattle.std.proofs.Common.{[], ◌∷◌}
use Rattle.clr_net.specs.Samples.{chain}
use Rattle.net_csv.specs.Cases.{chain_banks, chain_debts, chain_reads}
use Rattle.cascade.specs.Cases.{chain_clears}
use Rattle.net_check.specs.declared.limits.Limits.TheVariants as limits
use Rattle.law_tests.proofs.process.second_bank_pays_out.Goals as goal

pub returns : goal.returns
returns c = c.clearing_bank_pays_out.ensures chain (7 ∷ 8 ∷ [])
    (c.reading_gives_a_network.ensures.network limits.Standard chain_banks chain_debts
    chain chain_reads)
    chain_clears 1
