use Rattle.std.proofs.Common.{◌≡◌, ◌+◌, ◌*◌}
use Rattle.net_gen.specs.Generated.{after_tries, after_words}
use Rattle.net_gen.proofs.making.make_debts.Given as goal

abbrev pub invariant-loop : goal.invariant-loop
invariant-loop l = record {
  words : l.words ≡ after_words l.fn.seed (2 * l.fn.size + 4 * l.counter);
  net : l.net ≡ after_tries l.fn.seed l.fn.size l.counter;
}
