use Rattle.std.proofs.Common.{ap, arith}
use Rattle.std.specs.Option.{option_map_or}
use Rattle.clr_net.specs.declared.bank.Bank.{Bank}
use Rattle.clr_net.proofs.RowsAndColumns.{sum-claims_of_le}
use Rattle.cascade.proofs.owing.due.Goals as goal

pub overflow_add-result : goal.overflow_add-result
overflow_add-result c =
    let net = c.args.net.now in
    let read = ap (λ o. option_map_or (λ (b : Bank). b.outside) o 0) c.bank.ensures in
    let bank = c.requires.network.each_bank c.args.bank.0 c.requires.bank in
    let claims = sum-claims_of_le net c.args.bank.0 in
    omega (arith, bank.outside_in_limit, c.owed_by.ensures, c.requires.network.owed_in_limit)
