use Rattle.std.proofs.Common.{◌≡◌, ◌<◌, ◌≤◌, length, get_or, ap, subst, ⊎_elim, arith}
use Rattle.std.proofs.lemmas.Bool.{cases_lt}
use Rattle.std.proofs.lemmas.List.{get_or-map}
use Rattle.compress.specs.declared.step.Step.{Step}
use Rattle.compress.specs.Walk.{numbers}
use Rattle.compress.proofs.cancel.least_claim.Goals as goal

-- the step past the end of a list
abbrev none : Step
none = record { debt = record { 0 = 0 }; debtor = record { 0 = 0 } }

pub bounds-claims-steps : goal.bounds-claims-steps
bounds-claims-steps c =
    let k = c.loop-k.k in
    subst (λ x. x < length c.args.claims.now)
    (get_or-map (λ s. s.debt.0) c.args.steps.now k none 0 (omega arith))
    (c.requires.debts k (omega arith))

pub loop-k-preserved : goal.loop-k-preserved
loop-k-preserved c =
    let k = c.loop-k.k in
    let claims = c.args.claims.now in
    let walk = c.args.steps.now in
    let at : get_or (numbers walk) k 0 ≡ (get_or walk k none).debt.0 = get_or-map
    (λ s. s.debt.0) walk k none 0 (omega arith) in
    let read : get_or claims (get_or (numbers walk) k 0) 0
    ≡ get_or claims (get_or walk k none).debt.0 0 = ap (λ x. get_or claims x 0) at in
    let old = c.loop-k.invariant in
    let live : 0 < get_or claims (get_or (numbers walk) k 0) 0 = c.requires.live k (omega arith) in
    record {
      positive = omega (arith, live, read, c.min-least.ensures);
      closing = omega (arith, c.min-least.ensures);
      least = λ j g l. ⊎_elim
          (λ (b : j < k). omega (arith, old.least j g b, c.min-least.ensures))
          (λ (h : k ≤ j). subst
          (λ x. c.min-least.result ≤ get_or claims (get_or (numbers walk) x 0) 0)
          (let same : k ≡ j = omega arith in same) (omega (arith, read, c.min-least.ensures)))
          (cases_lt j k);
    }
