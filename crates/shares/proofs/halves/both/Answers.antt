-- The pieces of the front come first, and the desk is that of both.
use Rattle.std.proofs.Common.{rules}
use Rattle.shares.proofs.halves.both.Goals as goal

pub returns-clause-pieces : goal.returns-clause-pieces
returns-clause-pieces g c = search rules

pub returns-clause-desk : goal.returns-clause-desk
returns-clause-desk g c = search rules
