use Rattle.std.proofs.Common.{rules, ◌≤◌, ◌+◌, ap, arith, cond, eq-eqb, ne_eqb, get_or}
use Rattle.clr_net.specs.declared.TheConstants.{MAX_OWED}
use Rattle.rule_class.proofs.ClassTotal.{rest_of_class_after, rest_of_class_past, class_total_le}
use Rattle.rule_class.proofs.division.class_total.Goals.{then-classes-debt, else-classes-debt}
use Rattle.rule_class.proofs.division.class_total.Goals as goal

pub overflow_add-total : goal.overflow_add-total
overflow_add-total c =
    let claims = c.args.claims.now in
    let classes = c.args.classes.now in
    let debt = c.loop-debt.debt in
    let step = rest_of_class_after c.args.class claims classes debt c.requires.a_class_each (omega arith) in
    let here = ap (λ b. cond b (get_or claims debt 0) 0) (eq-eqb (get_or classes debt 0) c.args.class c.if-classes-debt.true) in
    let bounded : c.loop-debt.total + get_or claims debt 0 ≤ MAX_OWED =
    omega (arith, step, here, c.loop-debt.invariant, class_total_le c.args.class claims classes, c.requires.total) in
    search rules

pub loop-debt-preserved : goal.loop-debt-preserved
loop-debt-preserved c =
    let claims = c.args.claims.now in
    let classes = c.args.classes.now in
    let debt = c.loop-debt.debt in
    let step = rest_of_class_after c.args.class claims classes debt c.requires.a_class_each (omega arith) in
    elim c.if-classes-debt.branch [
      | then-classes-debt w ↦
          let here = ap (λ b. cond b (get_or claims debt 0) 0) (eq-eqb (get_or classes debt 0) c.args.class w.if-classes-debt.true) in
          omega (arith, step, here, c.loop-debt.invariant, w.total-is)
      | else-classes-debt w ↦
          let here = ap (λ b. cond b (get_or claims debt 0) 0) (ne_eqb (get_or classes debt 0) c.args.class w.if-classes-debt.false) in
          omega (arith, step, here, c.loop-debt.invariant, w.total-is)
    ]

pub returns : goal.returns
returns c = omega (
  arith,
  c.loop-debt.invariant,
  rest_of_class_past c.args.class c.args.claims.now c.args.classes.now c.loop-debt.debt (omega arith),
)
