use Rattle.clear_core.proofs.Richer.{stands_richer, traced_richer}
use Rattle.clear_core.proofs.laws.journal_stays_lawful_where_banks_are_richer.Goals as goal

pub returns : goal.returns
returns c = λ net more rs richer. (stands_richer net more richer rs, traced_richer net more richer rs)
