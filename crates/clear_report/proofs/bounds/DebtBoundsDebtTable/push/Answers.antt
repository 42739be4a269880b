use Rattle.std.proofs.Common.{◌≡◌, ◌∷◌, [], ◌++◌, ap, sym, ◌∙◌, decimal, slice_index, arith}
use Rattle.std.specs.Option.{option_map_or}
use Rattle.clr_net.specs.Net.{claim_of}
use Rattle.clear_report.specs.Text.{debt_fields}
use Rattle.clear_report.proofs.Lines.{line_more, line_put}
use Rattle.clear_report.proofs.bounds.DebtBoundsDebtTable.push.Goals as goal

pub push_debt-requires-clause-room : goal.push_debt-requires-clause-room
push_debt-requires-clause-room c = omega (arith, c.begin.ensures.short, c.add_number.ensures.more, c.add_number-2.ensures.more)

pub returns : goal.returns
returns c =
    let net = c.args.net.now in
    let x = c.args.debt.0 in
    let claim : c.debt-claim.result.claim ≡ claim_of net x = ap (λ o. option_map_or (λ d. d.claim) o 0) (sym c.debt-claim.ensures) in
    let least = decimal (slice_index c.args.self.now.least.now x) in
    let greatest = decimal (slice_index c.args.self.now.greatest.now x) in
    line_put c.push_debt.result c.push_debt.new.text.items c.args.text.now.items c.add_number-2.new.self (debt_fields net x)
    (decimal (claim_of net x)) (least ∷ greatest ∷ [])
    (c.add_number-2.ensures.bytes
    ∙ (λ i. decimal (claim i) ++ 44 ∷ (c.add_number.ensures.bytes ∙ ap (λ l. least ++ 44 ∷ l) c.begin.ensures.line ∙ line_more least greatest []) i)
    ∙ line_more (decimal (claim_of net x)) least (greatest ∷ []))
    c.push_debt.ensures
