use Rattle.std.proofs.Common.{arith, None, subst, sym}
use Rattle.clr_net.specs.declared.rule.RuleKind.TheVariants as kind
use Rattle.clr_net.proofs.Next.{IsNextSoFar, next_of_is_best}
use Rattle.rule_kinds.proofs.FirstUnmet.{first_unmet_is_next}
use Rattle.rule_kinds.proofs.order.OrderRuleUnitRule.next.Goals as goal

pub returns : goal.returns
returns c =
    let claims = c.args.claims.now in
    let awards = c.args.awards.now in
    sym (next_of_is_best kind.Order claims awards None
    (subst (λ n. IsNextSoFar kind.Order claims awards n None) (omega arith) c.loop-debt.invariant))

pub returns-then-awards-debt : goal.returns-then-awards-debt
returns-then-awards-debt c = sym (first_unmet_is_next c.args.claims.now c.args.awards.now c.loop-debt.debt
    (omega arith) c.if-awards-debt.true c.loop-debt.invariant)
