use Rattle.clr_net.proofs.Next.{IsNextSoFar}
use Rattle.rule_divisor.specs.Kind.{kind_of}
use Rattle.rule_divisor.proofs.divisor.DivisorUnitRule.next.Given as goal

abbrev pub invariant-loop-debt : goal.invariant-loop-debt
invariant-loop-debt l = IsNextSoFar (kind_of l.self) l.claims l.awards l.debt l.best
