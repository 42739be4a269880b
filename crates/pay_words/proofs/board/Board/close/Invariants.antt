use Rattle.std.proofs.Common.{◌≡◌, ℕ, ◌+◌, ◌<◌, get_or}
use Rattle.std.specs.Prelude.{slice_index}
use Rattle.std.specs.Slots.{slots_items}
use Rattle.pay_words.specs.Positions.{position_of}
use Rattle.pay_words.specs.Words.{unpaid, payment_of}
use Rattle.pay_words.proofs.board.Board.close.Given as goal

abbrev pub invariant-loop-i : goal.invariant-loop-i
invariant-loop-i l = (k : ℕ) → k < l.i → get_or l.into k unpaid ≡ payment_of (slice_index (slots_items l.closed.words) (position_of l.fn.self.net k + 1))
