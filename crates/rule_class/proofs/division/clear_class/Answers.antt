use Rattle.std.proofs.Common.{◌+◌, sym, subst, refl, ◌∙◌, arith}
use Rattle.std.proofs.lemmas.List.{ext_get_or}
use Rattle.rule_class.specs.Sharing.{cleared_class}
use Rattle.rule_class.proofs.ClearedClass.{length-cleared_class}
use Rattle.rule_class.proofs.Cleared.{IsClearedTo, cleared_here, cleared_not_here}
use Rattle.rule_class.proofs.division.clear_class.Goals.{then-classes-debt, else-classes-debt}
use Rattle.rule_class.proofs.division.clear_class.Goals as goal

pub loop-debt-init : goal.loop-debt-init
loop-debt-init c = record { as_many = refl; done = λ k l. absurd (omega arith); to_do = λ k l. refl }

pub loop-debt-preserved : goal.loop-debt-preserved
loop-debt-preserved c =
    let had = c.args.into.now in
    let classes = c.args.classes.now in
    let debt = c.loop-debt.debt in
    elim c.if-classes-debt.branch [
      | then-classes-debt w ↦ subst (IsClearedTo c.args.class had classes (debt + 1)) (sym w.into-is)
          (cleared_here c.args.class had classes debt c.loop-debt.into c.requires c.loop-debt-test.true c.loop-debt.invariant w.if-classes-debt.true)
      | else-classes-debt w ↦ subst (IsClearedTo c.args.class had classes (debt + 1)) (sym w.into-is)
          (cleared_not_here c.args.class had classes debt c.loop-debt.into c.requires c.loop-debt-test.true c.loop-debt.invariant w.if-classes-debt.false)
    ]

pub returns : goal.returns
returns c =
    ext_get_or 0 c.loop-debt.into (cleared_class c.args.class c.args.into.now c.args.classes.now)
    (c.loop-debt.invariant.as_many ∙ sym (length-cleared_class c.args.class c.args.into.now c.args.classes.now))
    (λ k l. c.loop-debt.invariant.done k (omega (arith, c.loop-debt.invariant.as_many, c.requires)))
