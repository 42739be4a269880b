use Rattle.std.proofs.Common.{◌≡◌, ◌*◌, []}
use Rattle.net_gen.specs.Generated.{after_words, banks_made}
use Rattle.net_gen.proofs.making.make_banks.Given as goal

abbrev pub invariant-loop-number : goal.invariant-loop-number
invariant-loop-number l = record {
  words : l.words ≡ after_words l.fn.seed (2 * l.number);
  net : l.net ≡ record { banks = banks_made l.fn.seed l.number; debts = [] };
}
