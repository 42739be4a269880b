use Rattle.std.proofs.Common.{arith}
use Rattle.std.proofs.lemmas.Grind.{common_steps}
use Rattle.compress.proofs.Cycles.{no_cycle}
use Rattle.compress.proofs.compression.compress.Goals as goal

pub returns-clause-compression : goal.returns-clause-compression
returns-clause-compression c = grind (arith, common_steps)

pub returns-clause-acyclic : goal.returns-clause-acyclic
returns-clause-acyclic c = no_cycle c.args.net.now _ _ _ c.banks-banks.ensures.network
    (returns-clause-compression c)
