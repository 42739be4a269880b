use Rattle.pay_words.proofs.board.Board.make.Given as goal

abbrev pub ghosts-found : goal.ghosts-found
ghosts-found a = record { origin = record { net = a.net.now; past = a.past.now } }
