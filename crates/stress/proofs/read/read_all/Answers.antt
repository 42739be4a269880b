use Rattle.std.proofs.Common.{◌≡◌, ◌∷◌, [], ◌++◌, ◌<◌, ◌≤◌, length, sym, ap, ◌∙◌, arith}
use Rattle.std.proofs.lemmas.List.{length_push}
use Rattle.std.proofs.lemmas.Result.{err_from_is_err_and}
use Rattle.stress.specs.declared.TheConstants.{MAX_SCENARIOS}
use Rattle.stress.proofs.Found.{value_first, no_more}
use Rattle.stress.proofs.Turns.{scenarios-next, scenarios-end, too_many, next_is}
use Rattle.stress.proofs.read.read_all.Goals as goal

pub returns-then-len-ge-MAX_SCENARIOS-clause-refused :
    goal.returns-then-len-ge-MAX_SCENARIOS-clause-refused
returns-then-len-ge-MAX_SCENARIOS-clause-refused c = λ f e.
    let net = c.args.net.now in
    let all = c.values.all.items in
    let first = value_first c.args.values.now c.values.value-index c.value-item.result c.values-test.true
    c.value-item.is in
    let same : c.fault.result ≡ f = cc e in
    let row = c.len-then-len-ge-MAX_SCENARIOS in
    let counted : row.result ≡ length all = omega (arith, row.ensures, c.values.all.ok.0) in
    let many : MAX_SCENARIOS ≤ length all =
    omega (arith, c.len.ensures, c.values.all.ok.0, c.if-len-ge-MAX_SCENARIOS.true) in
    c.values.invariant.same
    ∙ rw (
      scenarios-next net all _ _ _ first,
      too_many net all _ row.result f counted many (sym same ∙ c.fault.ensures),
    )

pub returns-in_err-scenario-clause-refused : goal.returns-in_err-scenario-clause-refused
returns-in_err-scenario-clause-refused c = λ f e.
    let net = c.args.net.now in
    let all = c.values.all.items in
    let first = value_first c.args.values.now c.values.value-index c.value-item.result c.values-test.true
    c.value-item.is in
    let row = c.len-in-values in
    let counted : row.result ≡ length all = omega (arith, row.ensures, c.values.all.ok.0) in
    let few : length all < MAX_SCENARIOS =
    omega (arith, c.len.ensures, c.values.all.ok.0, c.if-len-ge-MAX_SCENARIOS.false) in
    let p = err_from_is_err_and c.from_residual.result c.from_residual.ensures.1 in
    c.values.invariant.same
    ∙ rw (
      scenarios-next net all _ _ _ first,
      next_is net all _ row.result counted few,
      c.in_err-scenario.ensures.refused f (let told = p.1 in let same = p.2 in cc e),
    )

pub values-preserved : goal.values-preserved
values-preserved c =
    let net = c.args.net.now in
    let all = c.values.all.items in
    let first = value_first c.args.values.now c.values.value-index c.value-item.result c.values-test.true
    c.value-item.is in
    let row = c.len-in-values in
    let counted : row.result ≡ length all = omega (arith, row.ensures, c.values.all.ok.0) in
    let few : length all < MAX_SCENARIOS =
    omega (arith, c.len.ensures, c.values.all.ok.0, c.if-len-ge-MAX_SCENARIOS.false) in
    let pushed : c.push.new.self.items ≡ all ++ c.in_ok-scenario.scenario ∷ [] =
    rw c.if-is_err.ensures.negation at c.push.ensures.items in
    record {
      few = omega (arith, ap length pushed, length_push all c.in_ok-scenario.scenario);
      same = c.values.invariant.same
          ∙ rw (
            scenarios-next net all _ _ _ first,
            next_is net all _ row.result counted few,
            c.in_ok-scenario.ensures.read,
            pushed,
          );
    }

pub returns-clause-read : goal.returns-clause-read
returns-clause-read c =
    c.values.invariant.same
    ∙ scenarios-end c.args.net.now c.values.all.items _
    (no_more c.args.values.now c.values.value-index c.values-test.false)
