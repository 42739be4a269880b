use Rattle.rule_class.proofs.OrderClasses.{IsFilledBelow}
use Rattle.rule_class.proofs.order.share_in_order.Given as goal

abbrev pub invariant-loop-class : goal.invariant-loop-class
invariant-loop-class l = IsFilledBelow l.claims l.classes l.fn.estate l.class l.left l.into
