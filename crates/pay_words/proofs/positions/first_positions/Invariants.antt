use Rattle.std.proofs.Common.{◌≡◌, ◌≤◌, length, vec_capacity}
use Rattle.pay_words.specs.Positions.{first_position}
use Rattle.pay_words.specs.Tables.{tabled}
use Rattle.pay_words.proofs.positions.first_positions.Given as goal

abbrev pub invariant-loop-number : goal.invariant-loop-number
invariant-loop-number l = record {
  items : l.firsts.items ≡ tabled l.number (first_position l.net);
  first : l.first ≡ first_position l.net l.number;
  room : length l.net.banks ≤ vec_capacity l.firsts;
}
