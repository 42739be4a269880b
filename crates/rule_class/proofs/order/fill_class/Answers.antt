use Rattle.std.proofs.Common.{◌+◌, ◌-◌, ap, ◌∙◌, sum, sym, subst, arith}
use Rattle.std.proofs.lemmas.List.{take_all}
use Rattle.clr_net.specs.Division.{class_claims}
use Rattle.clr_net.proofs.Classes.{length-class_claims}
use Rattle.rule_class.specs.ByOrder.{fill}
use Rattle.rule_class.proofs.ClassSets.{all_set}
use Rattle.rule_class.proofs.OrderClasses.{IsFilling, filling_takes, filling_skips}
use Rattle.rule_class.proofs.order.fill_class.Goals.{then-classes-place, else-classes-place}
use Rattle.rule_class.proofs.order.fill_class.Goals as goal

pub loop-place-preserved : goal.loop-place-preserved
loop-place-preserved c =
    let claims = c.args.claims.now in
    let classes = c.args.classes.now in
    let had = c.args.into.now in
    let i = c.loop-place.place in
    elim c.if-classes-place.branch [
      | then-classes-place w ↦ subst (λ l. IsFilling c.args.class claims classes c.args.estate had (i + 1) l c.if-classes-place.into) (sym w.left-is)
          (subst (λ xs. IsFilling c.args.class claims classes c.args.estate had (i + 1) (c.loop-place.left - w.min-award.result) xs) (sym w.into-is)
          (filling_takes c.args.class claims classes c.args.estate had i c.loop-place.left c.loop-place.into c.loop-place-test.true
          c.requires.a_place_each c.loop-place.invariant w.min-award.result c.requires.positive w.if-classes-place.true w.min-award.ensures))
      | else-classes-place w ↦ subst (λ l. IsFilling c.args.class claims classes c.args.estate had (i + 1) l c.if-classes-place.into) (sym w.left-is)
          (subst (λ xs. IsFilling c.args.class claims classes c.args.estate had (i + 1) c.loop-place.left xs) (sym w.into-is)
          (filling_skips c.args.class claims classes c.args.estate had i c.loop-place.left c.loop-place.into c.loop-place-test.true
          c.requires.a_place_each c.loop-place.invariant w.if-classes-place.false))
    ]

pub returns-clause-left : goal.returns-clause-left
returns-clause-left c =
    let own = class_claims c.args.class c.args.claims.now c.args.classes.now in
    c.loop-place.invariant.left_is
    ∙ ap (λ xs. c.args.estate - sum xs) (take_all c.loop-place.place own (omega (arith, length-class_claims c.args.class c.args.claims.now c.args.classes.now)))

pub returns-clause-filled : goal.returns-clause-filled
returns-clause-filled c =
    all_set c.args.class c.args.classes.now (fill (class_claims c.args.class c.args.claims.now c.args.classes.now) c.args.estate)
    c.args.into.now c.loop-place.place c.loop-place.into c.requires.positive (omega arith) c.loop-place.invariant.filled
