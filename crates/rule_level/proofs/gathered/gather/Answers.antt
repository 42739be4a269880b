use Rattle.std.proofs.Common.{arith}
use Rattle.rule_level.proofs.Gathering.{gathered_all, gathered_more, gathered_same, gathered_within}
use Rattle.rule_level.proofs.Limits.{claim_in_limit}
use Rattle.rule_level.proofs.gathered.gather.Goals.{then-classes-debt, else-classes-debt}
use Rattle.rule_level.proofs.gathered.gather.Goals as goal

pub loop-debt-preserved : goal.loop-debt-preserved
loop-debt-preserved c =
    let claims = c.args.claims.now in
    let classes = c.args.classes.now in
    let had = c.args.into.now in
    let now = c.loop-debt in
    elim c.if-classes-debt.branch [
      | then-classes-debt w ↦
          rw (w.into-is, w.many-is)
          (gathered_more claims classes c.args.class had now.into now.debt now.many (omega arith) now.invariant
          c.requires.first w.if-classes-debt.true c.requires.a_place_each
          (claim_in_limit claims c.requires.limit now.debt))
      | else-classes-debt w ↦
          rw (w.into-is, w.many-is)
          (gathered_same claims classes c.args.class had now.into now.debt now.many (omega arith) now.invariant
          w.if-classes-debt.false)
    ]

pub returns-clause-limit : goal.returns-clause-limit
returns-clause-limit c =
    gathered_within c.args.claims.now c.args.classes.now c.args.class c.args.into.now c.loop-debt.into
    c.loop-debt.debt c.loop-debt.many c.loop-debt.invariant (omega arith)

pub returns-clause-claims : goal.returns-clause-claims
returns-clause-claims c =
    gathered_all c.args.claims.now c.args.classes.now c.args.class c.args.into.now c.loop-debt.into
    c.loop-debt.debt c.loop-debt.many c.loop-debt.invariant (omega arith)
