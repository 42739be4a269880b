use Rattle.std.proofs.Common.{rules}
use Rattle.clear_words.proofs.job.limits_of.Goals as goal

pub returns-in-None : goal.returns-in-None
returns-in-None c = search rules
