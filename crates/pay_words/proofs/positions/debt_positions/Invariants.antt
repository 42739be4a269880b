use Rattle.std.proofs.Common.{◌≡◌, ◌≤◌, length, vec_capacity}
use Rattle.pay_words.specs.Positions.{position_of}
use Rattle.pay_words.specs.Tables.{tabled}
use Rattle.pay_words.proofs.SideBySide.{next_position}
use Rattle.pay_words.proofs.positions.debt_positions.Given as goal

abbrev pub invariant-loop-number : goal.invariant-loop-number
invariant-loop-number l = record {
  next : l.next.items ≡ tabled (length l.net.banks) (next_position l.net l.number);
  items : l.of_debts.items ≡ tabled l.number (position_of l.net);
  room : length l.net.debts ≤ vec_capacity l.of_debts;
}
