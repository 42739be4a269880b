use Rattle.impact.proofs.Ruined.{goes_on_where_fewer_are_ruined}
use Rattle.impact.proofs.laws.clearing_goes_on_where_fewer_are_ruined.Goals as goal

pub returns : goal.returns
returns c = goes_on_where_fewer_are_ruined
