use Rattle.std.proofs.Common.{◌∙◌, ap, sym}
use Rattle.clr_net.specs.Net.{numbers}
use Rattle.bank_desk.proofs.DesksOf.{sound_as_desk_of, cash_read, outside_read}
use Rattle.bank_desk.proofs.desk.Desk.of.Goals as goal

pub invariant_of-result : goal.invariant_of-result
invariant_of-result c =
    let net = c.args.net.now in
    let i = c.args.bank.0 in
    sound_as_desk_of net i _ c.banks.ensures.network c.requires.bank
    (sym (cash_read net i c.bank-known.result.now c.bank-known.ensures))
    (sym (outside_read net i c.bank-known.result.now c.bank-known.ensures))
    (ap numbers c.in_ok-from_slice.ensures.items ∙ c.row-row.ensures)
    c.lay_out_row.ensures.claims
    c.lay_out_row.ensures.classes
