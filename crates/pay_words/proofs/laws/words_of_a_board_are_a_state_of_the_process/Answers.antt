use Rattle.pay_words.proofs.Events.{board_of_events}
use Rattle.pay_words.proofs.laws.words_of_a_board_are_a_state_of_the_process.Goals as goal

pub returns : goal.returns
returns c = board_of_events
