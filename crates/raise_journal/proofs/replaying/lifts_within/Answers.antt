use Rattle.std.proofs.Common.{rules}
use Rattle.raise_journal.proofs.replaying.lifts_within.Goals as goal

pub returns-then-had-to : goal.returns-then-had-to
returns-then-had-to c = search rules
