use Rattle.pay_words.proofs.board.Board.hand.Given as goal

abbrev pub ghosts-hand_out : goal.ghosts-hand_out
ghosts-hand_out a = record { workers = a.self.now.table.workers; worker = a.worker }
