use Rattle.std.proofs.Common.{◌+◌, sym, subst, arith}
use Rattle.rule_class.proofs.OrderClasses.{IsFilledBelow, class_more, filled_all}
use Rattle.rule_class.proofs.order.share_in_order.Goals as goal

pub loop-class-preserved : goal.loop-class-preserved
loop-class-preserved c =
    let claims = c.args.claims.now in
    let classes = c.args.classes.now in
    let class = c.loop-class.class in
    subst (λ l. IsFilledBelow claims classes c.args.estate (class + 1) l c.fill_class-left.new.into) (sym c.fill_class-left.ensures.left)
    (class_more claims classes c.args.estate class c.loop-class.left c.loop-class.into c.fill_class-left.new.into (omega arith)
    c.loop-class.invariant c.fill_class-left.ensures.filled)

pub returns : goal.returns
returns c =
    filled_all c.args.claims.now c.args.classes.now c.args.estate c.last_class-class-end.result c.loop-class.left c.loop-class.into
    c.last_class-class-end.ensures.last (subst (λ n. IsFilledBelow c.args.claims.now c.args.classes.now c.args.estate n c.loop-class.left c.loop-class.into)
    (omega arith) c.loop-class.invariant)
