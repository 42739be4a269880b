use Rattle.std.proofs.Common.{◌≡◌, ◌∷◌, [], ◌++◌, ap, sym, ◌∙◌, decimal, slice_index, arith}
use Rattle.std.specs.Option.{option_map_or}
use Rattle.clr_net.specs.Net.{claim_of}
use Rattle.clear_report.specs.Text.{debt_fields}
use Rattle.clear_report.proofs.Lines.{line_more, line_put}
use Rattle.clear_report.proofs.payments.PaymentsDebtTable.push.Goals as goal

pub push_debt-requires-clause-room : goal.push_debt-requires-clause-room
push_debt-requires-clause-room c = omega (arith, c.begin.ensures.short, c.add_number.ensures.more)

pub returns : goal.returns
returns c =
    let net = c.args.net.now in
    let x = c.args.debt.0 in
    let claim : c.debt-claim.result.claim ≡ claim_of net x = ap (λ o. option_map_or (λ d. d.claim) o 0) (sym c.debt-claim.ensures) in
    let paid = decimal (slice_index c.args.self.now.paid.now x) in
    line_put c.push_debt.result c.push_debt.new.text.items c.args.text.now.items c.add_number.new.self (debt_fields net x)
    (decimal (claim_of net x)) (paid ∷ [])
    (c.add_number.ensures.bytes ∙ (λ i. decimal (claim i) ++ 44 ∷ c.begin.ensures.line i)
    ∙ line_more (decimal (claim_of net x)) paid [])
    c.push_debt.ensures
