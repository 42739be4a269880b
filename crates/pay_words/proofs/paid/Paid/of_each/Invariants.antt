use Rattle.std.proofs.Common.{◌≡◌, map, replicate}
use Rattle.pay_words.proofs.paid.Paid.of_each.Given as goal

abbrev pub invariant-loop : goal.invariant-loop
invariant-loop l = l.lists.items ≡ replicate l.counter (map (λ q. q.value) l.start)
