use Rattle.std.proofs.Common.{arith, subst, sym}
use Rattle.clr_net.specs.declared.rule.RuleKind.TheVariants as kind
use Rattle.clr_net.proofs.Next.{IsNextSoFar, next_of_is_best}
use Rattle.rule_kinds.proofs.losses.LossRuleUnitRule.next.Goals as goal

pub returns : goal.returns
returns c =
    let claims = c.args.claims.now in
    let awards = c.args.awards.now in
    sym (next_of_is_best kind.Losses claims awards c.loop-debt.worst
    (subst (λ n. IsNextSoFar kind.Losses claims awards n c.loop-debt.worst) (omega arith) c.loop-debt.invariant))
