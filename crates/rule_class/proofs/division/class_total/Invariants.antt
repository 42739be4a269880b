use Rattle.std.proofs.Common.{◌≡◌, ◌+◌, sum}
use Rattle.clr_net.specs.Division.{class_claims}
use Rattle.rule_class.proofs.ClassTotal.{rest_of_class}
use Rattle.rule_class.proofs.division.class_total.Given as goal

abbrev pub invariant-loop-debt : goal.invariant-loop-debt
invariant-loop-debt l =
    l.total + rest_of_class l.class l.claims l.classes l.debt ≡ sum (class_claims l.class l.claims l.classes)
