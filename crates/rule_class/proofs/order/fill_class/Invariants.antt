use Rattle.rule_class.proofs.OrderClasses.{IsFilling}
use Rattle.rule_class.proofs.order.fill_class.Given as goal

abbrev pub invariant-loop-place : goal.invariant-loop-place
invariant-loop-place l = IsFilling l.class l.claims l.classes l.fn.estate l.initial.into l.place l.left l.into
