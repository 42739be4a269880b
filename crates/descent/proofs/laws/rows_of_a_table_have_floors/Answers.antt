use Rattle.descent.proofs.Lowest.{rows_have_floors}
use Rattle.descent.proofs.laws.rows_of_a_table_have_floors.Goals as goal

pub returns : goal.returns
returns c = rows_have_floors
