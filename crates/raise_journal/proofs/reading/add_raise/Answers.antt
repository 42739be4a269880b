use Rattle.std.proofs.Common.{rules}
use Rattle.raise_journal.proofs.reading.add_raise.Goals as goal

pub returns-in-Err-push-clause-read : goal.returns-in-Err-push-clause-read
returns-in-Err-push-clause-read c = search rules
