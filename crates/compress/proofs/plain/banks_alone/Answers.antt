use Rattle.std.proofs.Common.{sym, ap, ◌∙◌}
use Rattle.clr_net.specs.Net.{with_bank}
use Rattle.clr_net.proofs.Copies.{ok_told, next_bank_is_new, bank_copied, first_banks}
use Rattle.compress.proofs.plain.banks_alone.Goals as goal

pub add_bank-requires-clause-new_name : goal.add_bank-requires-clause-new_name
add_bank-requires-clause-new_name c =
    let net = c.args.net.now in
    let new = next_bank_is_new net c.banks-bank-end.ensures.network c.loop-bank.bank
    c.bank.result.now c.bank.ensures in
    rw (c.loop-bank.invariant.so_far, c.in_ok-bank.ensures) new.only_of_its_name

pub loop-bank-preserved : goal.loop-bank-preserved
loop-bank-preserved c = record {
  so_far = ok_told c.add_bank.result (sym c.is_err.ensures.value ∙ c.if-is_err.false)
      c.add_bank.ensures.ok
      ∙ ap (λ n. with_bank n c.in_ok-bank.bank) c.loop-bank.invariant.so_far
      ∙ ap (λ b. with_bank (first_banks c.args.net.now c.loop-bank.bank) b) c.in_ok-bank.ensures
      ∙ bank_copied c.args.net.now c.loop-bank.bank c.bank.result.now c.bank.ensures;
}
