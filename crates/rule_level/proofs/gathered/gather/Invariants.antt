use Rattle.rule_level.proofs.Gathering.{IsGathered}
use Rattle.rule_level.proofs.gathered.gather.Given as goal

abbrev pub invariant-loop-debt : goal.invariant-loop-debt
invariant-loop-debt l = IsGathered l.claims l.classes l.class l.fn.into l.into l.debt l.many
