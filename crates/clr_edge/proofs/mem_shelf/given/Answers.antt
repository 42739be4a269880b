use Rattle.std.proofs.Common.{rules}
use Rattle.clr_edge.proofs.mem_shelf.given.Goals as goal

-- where the fetch is not one that is to fail
pub returns : goal.returns
returns c = search rules
