use Rattle.std.proofs.Common.{◌≡◌, ◌≤◌, length, map, take, vec_capacity, vec_len}
use Rattle.pay_words.proofs.paid.Paid.of.Given as goal

abbrev pub invariant-loop-payment : goal.invariant-loop-payment
invariant-loop-payment l = record {
  items : l.values.items ≡ map (λ q. q.value) (take l.payment-index l.start);
  len : vec_len l.values ≡ l.payment-index;
  room : length l.start ≤ vec_capacity l.values;
}
