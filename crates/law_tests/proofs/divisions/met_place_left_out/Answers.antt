use Rattle.std.proofs.Common.{[], ◌∷◌, refl, lit<, lit≤, sym, ◌∙◌}
use Rattle.clr_net.specs.declared.rule.RuleKind.TheVariants as kind
use Rattle.law_tests.proofs.divisions.met_place_left_out.Goals as goal

pub returns : goal.returns
returns c = let law = c.met_place_can_be_left_out.ensures kind.Equal in law (1 ∷ 5 ∷ []) (1 ∷ 2 ∷ []) 0 (lit< tt) refl (lit≤ tt) ∙ sym (law (7 ∷ 5 ∷ []) (7 ∷ 2 ∷ []) 0 (lit< tt) refl (lit≤ tt))
