use Rattle.std.proofs.Common.{get_or, ap, ◌∙◌, arith}
use Rattle.clr_net.specs.Net.{with_debt}
use Rattle.clr_net.proofs.Copies.{next_debt_is_new, debt_copied, debts_copied}
use Rattle.clr_net.specs.Claims.{of_claim, with_claims}
use Rattle.clr_net.proofs.LowerClaims.{length-of_claims, lower_is_network, lower_read}
use Rattle.compress.proofs.plain.with_claims.Goals as goal

pub add_debt-requires : goal.add_debt-requires
add_debt-requires c =
    let net = c.args.net.now in
    let C = c.args.claims.now in
    let n = c.loop-number.number in
    rw c.loop-number.invariant.so_far
    (next_debt_is_new (with_claims net C)
    (lower_is_network net C c.debts-number-end.ensures.network c.requires.as_many c.requires.within)
    n (of_claim (get_or C n 0) c.debt.result)
    (lower_read net C n c.debt.result c.requires.as_many c.debt.ensures))

pub loop-number-preserved : goal.loop-number-preserved
loop-number-preserved c =
    let net = c.args.net.now in
    let C = c.args.claims.now in
    let n = c.loop-number.number in
    let lower = of_claim (get_or C n 0) c.debt.result in
    record {
      so_far = c.in_ok-add_debt.ensures.ok
          ∙ ap (λ made. with_debt made lower) c.loop-number.invariant.so_far
          ∙ debt_copied (with_claims net C) n lower
          (lower_read net C n c.debt.result c.requires.as_many c.debt.ensures);
    }

pub returns : goal.returns
returns c =
    let net = c.args.net.now in
    let C = c.args.claims.now in
    c.loop-number.invariant.so_far
    ∙ debts_copied (with_claims net C) c.loop-number.number
    (omega (arith, length-of_claims C net.debts))
