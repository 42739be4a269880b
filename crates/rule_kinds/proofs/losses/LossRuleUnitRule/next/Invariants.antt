use Rattle.clr_net.specs.declared.rule.RuleKind.TheVariants as kind
use Rattle.clr_net.proofs.Next.{IsNextSoFar}
use Rattle.rule_kinds.proofs.losses.LossRuleUnitRule.next.Given as goal

abbrev pub invariant-loop-debt : goal.invariant-loop-debt
invariant-loop-debt l = IsNextSoFar kind.Losses l.claims l.awards l.debt l.worst
