use Rattle.rule_level.proofs.Ends.{IsClearedUpTo}
use Rattle.rule_level.proofs.division.clear_above.Given as goal

abbrev pub invariant-loop-debt : goal.invariant-loop-debt
invariant-loop-debt l = IsClearedUpTo l.class l.classes l.fn.into l.debt l.into
