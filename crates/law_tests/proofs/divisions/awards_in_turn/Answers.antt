use Rattle.std.proofs.Common.{[], ◌∷◌}
use Rattle.clr_net.specs.declared.rule.RuleKind.TheVariants as kind
use Rattle.law_tests.proofs.WorkFacts.{within, in_turn}
use Rattle.law_tests.proofs.divisions.awards_in_turn.Goals as goal

pub returns : goal.returns
returns c = c.awards_in_turn_are_those_of_their_sum.ensures kind.Webster (6 ∷ 3 ∷ 1 ∷ []) (3 ∷ 2 ∷ 0 ∷ []) within in_turn
