use Rattle.std.proofs.Common.{◌++◌, [], ◌∷◌, ◌≡◌, length, sym, ◌∙◌, arith}
use Rattle.std.proofs.lemmas.List.{length-map, take_all, take_more, take_more_set}
use Rattle.clr_net.specs.declared.bank.Bank.{Bank}
use Rattle.cascade.proofs.CashAt.{cash_read}
use Rattle.clear_many.specs.Shocked.{cash_row}
use Rattle.clear_many.proofs.Shocked.{row_at}
use Rattle.clear_many.proofs.shocks.write_cash.Goals as goal

pub loop-number-preserved : goal.loop-number-preserved
loop-number-preserved c =
    let net = c.args.net.now in
    let n = c.loop-number.number in
    let units = c.bank.result.now.cash in
    let many : length (cash_row net) ≡ length net.banks = length-map net.banks (λ (b : Bank). b.cash) in
    let old = c.loop-number.invariant in
    let last = row_at net n ∙ cash_read net n c.bank.result.now c.bank.ensures in
    take_more_set c.loop-number.row n units (omega arith)
    ∙ (λ k. old k ++ sym last k ∷ [])
    ∙ sym (take_more (cash_row net) n 0 (omega arith))

pub returns : goal.returns
returns c =
    let net = c.args.net.now in
    let n = c.loop-number.number in
    let many : length (cash_row net) ≡ length net.banks = length-map net.banks (λ (b : Bank). b.cash) in
    sym (take_all n c.loop-number.row (omega arith))
    ∙ c.loop-number.invariant
    ∙ take_all n (cash_row net) (omega arith)
