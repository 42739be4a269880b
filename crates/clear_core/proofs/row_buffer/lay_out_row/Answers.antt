use Rattle.std.proofs.Common.{◌<◌, length, ◌∙◌, arith}
use Rattle.clr_net.specs.Net.{row, claim_of, class_of}
use Rattle.clear_core.proofs.Rows.{as_many_numbers, number_at, debt_of_row, claim_read, class_read, laid_more}
use Rattle.clear_core.proofs.row_buffer.lay_out_row.Goals as goal

pub debt-debt-requires : goal.debt-debt-requires
debt-debt-requires c =
    (debt_of_row c.args.net.now c.args.bank.0 c.row-id-items.result.now c.loop-id.id-index (record { 0 = 0 }) c.row-id-items.ensures (omega arith)).in_range

pub loop-id-preserved : goal.loop-id-preserved
loop-id-preserved c =
    let net = c.args.net.now in
    let ids = c.row-id-items.result.now in
    let ns = row net c.args.bank.0 in
    let k = c.loop-id.id-index in
    let debt = c.debt-debt.result in
    let in_row : k < length ns = omega (arith, as_many_numbers ids ns c.row-id-items.ensures) in
    let at = number_at ids ns k _ c.row-id-items.ensures (omega arith) in
    record {
      claims_laid = c.push_reserved.ensures.items ∙ laid_more (claim_of net) c.loop-id.claims.items ns k _ debt.claim
          c.loop-id.invariant.claims_laid in_row at (claim_read net _ debt c.debt-debt.ensures);
      classes_laid = c.push_reserved-in-loop-id.ensures.items ∙ laid_more (class_of net) c.loop-id.classes.items ns k _ debt.class
          c.loop-id.invariant.classes_laid in_row at (class_read net _ debt c.debt-debt.ensures);
      room_of_claims = c.push_reserved.ensures.capacity ∙ c.loop-id.invariant.room_of_claims;
      room_of_classes = c.push_reserved-in-loop-id.ensures.capacity ∙ c.loop-id.invariant.room_of_classes;
    }
