use Rattle.std.proofs.Common.{◌≡◌, ◌≤◌, length, map, take, vec_capacity, vec_len}
use Rattle.clr_net.specs.Net.{debtor_of, debt_numbers}
use Rattle.pay_words.proofs.opening.debtors_of.Given as goal

abbrev pub invariant-loop-number : goal.invariant-loop-number
invariant-loop-number l = record {
  items : l.debtors.items ≡ map (debtor_of l.net) (take l.number (debt_numbers l.net));
  len : vec_len l.debtors ≡ l.number;
  room : length l.net.debts ≤ vec_capacity l.debtors;
}
