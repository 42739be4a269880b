use Rattle.std.proofs.Common.{◌≡◌, false, arith}
use Rattle.std.proofs.lemmas.Bool.{OnFalse_from}
use Rattle.clear_core.specs.Clearing.{least_by}
use Rattle.clear_least.proofs.Sweeping.{quiet_at_least}
use Rattle.clear_least.proofs.sweep.sweep.Goals as goal

pub returns-clause-done : goal.returns-clause-done
returns-clause-done g c =
    let net = c.args.net.now in
    let f = g.S.Spending.spends c.args.spending.now net in
    let now = c.loop-number in
    OnFalse_from now.any (now.payments.paid ≡ least_by net f) (λ (e : now.any ≡ false).
    quiet_at_least net f now.payments.paid now.marks now.invariant.swept c.banks-number-end.ensures.network
    (λ i l. now.invariant.so_far.quiet e i (omega arith)))
