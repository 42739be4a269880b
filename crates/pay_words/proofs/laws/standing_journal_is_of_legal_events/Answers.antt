use Rattle.pay_words.proofs.Events.{of_events}
use Rattle.pay_words.proofs.laws.standing_journal_is_of_legal_events.Goals as goal

pub returns : goal.returns
returns c = of_events
