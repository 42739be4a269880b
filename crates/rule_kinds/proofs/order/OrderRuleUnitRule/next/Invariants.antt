use Rattle.std.proofs.Common.{None}
use Rattle.clr_net.specs.declared.rule.RuleKind.TheVariants as kind
use Rattle.clr_net.proofs.Next.{IsNextSoFar}
use Rattle.rule_kinds.proofs.order.OrderRuleUnitRule.next.Given as goal

abbrev pub invariant-loop-debt : goal.invariant-loop-debt
invariant-loop-debt l = IsNextSoFar kind.Order l.claims l.awards l.debt None
