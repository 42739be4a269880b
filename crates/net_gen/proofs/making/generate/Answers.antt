use Rattle.std.proofs.Common.{sym, subst}
use Rattle.clr_net.specs.Limits.{IsNetwork}
use Rattle.net_gen.proofs.Lawful.{tries_network}
use Rattle.net_gen.proofs.making.generate.Goals as goal

pub returns-clause-lawful : goal.returns-clause-lawful
returns-clause-lawful c = subst IsNetwork (sym c.in_ok-fill.ensures)
    (tries_network c.args.seed c.args.size c.args.tries c.requires.some_banks c.requires.few_banks
    c.requires.few_tries)
