use Rattle.rule_class.proofs.Cleared.{IsClearedTo}
use Rattle.rule_class.proofs.division.clear_class.Given as goal

abbrev pub invariant-loop-debt : goal.invariant-loop-debt
invariant-loop-debt l = IsClearedTo l.class l.initial.into l.classes l.debt l.into
