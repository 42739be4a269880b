use Rattle.std.proofs.Common.{◌+◌, get_or, arith, lt-ltb, le-ltb, subst, sym}
use Rattle.clr_net.proofs.Next.{IsNextSoFar, so_far_skips, so_far_starts, so_far_keeps, so_far_takes, next_of_is_best}
use Rattle.rule_divisor.specs.Kind.{kind_of}
use Rattle.rule_divisor.proofs.divisor.DivisorUnitRule.next.Goals as goal
use Rattle.rule_divisor.proofs.divisor.DivisorUnitRule.next.Goals.{then-awards-debt+in-None, then-awards-debt+in-Some+then-goes_before, then-awards-debt+in-Some+else-goes_before, else-awards-debt}

pub loop-debt-preserved : goal.loop-debt-preserved
loop-debt-preserved c =
    let kind = kind_of c.args.self.now in
    let claims = c.args.claims.now in
    let awards = c.args.awards.now in
    let debt = c.loop-debt.debt in
    elim c.if-awards-debt.branch [
      | then-awards-debt+in-None w ↦ subst (λ r. IsNextSoFar kind claims awards (debt + 1) r) (sym w.best-is)
          (so_far_starts kind claims awards debt (lt-ltb (get_or awards debt 0) (get_or claims debt 0) w.if-awards-debt.true)
          (subst (λ r. IsNextSoFar kind claims awards debt r) w.in-None.is c.loop-debt.invariant))
      | then-awards-debt+in-Some+then-goes_before w ↦ subst (λ r. IsNextSoFar kind claims awards (debt + 1) r) (sym w.best-is)
          (so_far_takes kind claims awards debt w.in-Some.earlier (lt-ltb (get_or awards debt 0) (get_or claims debt 0) w.if-awards-debt.true)
          (sym w.if-goes_before.ensures) (subst (λ r. IsNextSoFar kind claims awards debt r) w.in-Some.is c.loop-debt.invariant))
      | then-awards-debt+in-Some+else-goes_before w ↦ subst (λ r. IsNextSoFar kind claims awards (debt + 1) r) (sym w.best-is)
          (so_far_keeps kind claims awards debt w.in-Some.earlier (sym w.if-goes_before.ensures)
          (subst (λ r. IsNextSoFar kind claims awards debt r) w.in-Some.is c.loop-debt.invariant))
      | else-awards-debt w ↦ subst (λ r. IsNextSoFar kind claims awards (debt + 1) r) (sym w.best-is)
          (so_far_skips kind claims awards debt c.loop-debt.best
          (le-ltb (get_or awards debt 0) (get_or claims debt 0) w.if-awards-debt.false) c.loop-debt.invariant)
    ]

pub returns : goal.returns
returns c =
    let kind = kind_of c.args.self.now in
    let claims = c.args.claims.now in
    let awards = c.args.awards.now in
    sym (next_of_is_best kind claims awards c.loop-debt.best
    (subst (λ n. IsNextSoFar kind claims awards n c.loop-debt.best) (omega arith) c.loop-debt.invariant))
