use Rattle.std.proofs.Common.{◌≡◌, take}
use Rattle.pay_words.specs.Traces.{start_of}
use Rattle.settle.proofs.opening.payments_after.Given as goal

abbrev pub invariant-loop-raise : goal.invariant-loop-raise
invariant-loop-raise l = l.payments.items ≡ start_of l.net (take l.raise-index l.past)
