use Rattle.std.proofs.Common.{◌∙◌}
use Rattle.net_gen.proofs.Words.{at_first}
use Rattle.net_gen.proofs.making.fill.Goals as goal

pub make_banks-requires-clause-words : goal.make_banks-requires-clause-words
make_banks-requires-clause-words c = c.new-words.ensures ∙ at_first c.args.seed
