use Rattle.std.proofs.Common.{◌≡◌, map, take}
use Rattle.pay_words.specs.Seating.{greatest}
use Rattle.pay_words.proofs.opening.greatest_stamp.Given as goal

abbrev pub invariant-loop-payment : goal.invariant-loop-payment
invariant-loop-payment l = l.stamp ≡ greatest (map (λ p. p.stamp) (take l.payment-index l.start))
