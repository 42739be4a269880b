use Rattle.rescue.proofs.SavedBesides.{added_hurts_nobody}
use Rattle.rescue.proofs.laws.cash_added_hurts_nobody.Goals as goal

pub returns : goal.returns
returns c = added_hurts_nobody
