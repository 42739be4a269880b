use Rattle.std.proofs.Common.{◌≡◌, sym, ap, ◌∙◌, Err}
use Rattle.clr_net.proofs.Copies.{ok_told}
use Rattle.stress.proofs.Found.{value_first, no_more}
use Rattle.stress.proofs.Turns.{losses-next, losses-end}
use Rattle.stress.proofs.read.read_losses.Goals as goal

pub returns-in-Err-clause-refused : goal.returns-in-Err-clause-refused
returns-in-Err-clause-refused c = λ k e.
    let values = c.args.values.now in
    let first = value_first values c.values.value-index c.value-item.result c.values-test.true c.value-item.is in
    let same : c.in-Err.kind ≡ k = cc e in
    c.values.invariant.same
    ∙ rw (losses-next c.args.net.now c.values.all _ _ _ first, ← c.loss_from.ensures, c.in-Err.is) (ap Err same)

pub values-preserved : goal.values-preserved
values-preserved c =
    let values = c.args.values.now in
    let first = value_first values c.values.value-index c.value-item.result c.values-test.true c.value-item.is in
    let no_error = sym c.is_err.ensures.value ∙ c.if-is_err.false in
    record {
      same = c.values.invariant.same
          ∙ rw (
            losses-next c.args.net.now c.values.all _ _ _ first,
            ← c.loss_from.ensures,
            c.in-Ok.is,
            ok_told c.push.result no_error c.push.ensures.ok,
          );
    }

pub returns-clause-read : goal.returns-clause-read
returns-clause-read c =
    c.values.invariant.same
    ∙ losses-end c.args.net.now c.values.all _
    (no_more c.args.values.now c.values.value-index c.values-test.false)
