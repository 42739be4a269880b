use Rattle.std.proofs.Common.{length, replicate, take, get_or, set, sym, ap, ◌∙◌, arith}
use Rattle.std.proofs.lemmas.List.{take_more}
use Rattle.clear_core.specs.declared.event.Raise.{Raise}
use Rattle.pay_words.specs.Traces.{last_payment, start_of}
use Rattle.pay_words.proofs.Starts.{start_more, start_none}
use Rattle.pay_words.proofs.Tables.{length-tabled}
use Rattle.pay_words.specs.Words.{unpaid}
use Rattle.settle.proofs.opening.payments_after.Goals as goal

-- what a list has past its end
abbrev no_raise : Raise
no_raise = record { stamp = 0; debt = record { 0 = 0 }; to = 0 }

pub loop-raise-init : goal.loop-raise-init
loop-raise-init c = c.in_ok-payments.ensures ∙ ap (λ n. replicate n unpaid) c.debts.ensures.debts ∙ sym (start_none c.args.net.now)

pub index_mut-requires : goal.index_mut-requires
index_mut-requires c =
    let i = c.loop-raise.raise-index in
    let so_far = take i c.args.past.now in
    omega (
      arith,
      c.requires i no_raise c.loop-raise-test.true,
      c.loop-raise.payments.ok,
      ap length c.loop-raise.invariant,
      length-tabled (length c.args.net.now.debts) (λ x. last_payment x so_far),
    )

pub loop-raise-preserved : goal.loop-raise-preserved
loop-raise-preserved c =
    let net = c.args.net.now in
    let past = c.args.past.now in
    let i = c.loop-raise.raise-index in
    let r = get_or past i no_raise in
    ap (λ ps. set ps r.debt.0 (record { value = r.to; stamp = r.stamp })) c.loop-raise.invariant
    ∙ sym (start_more net (take i past) r)
    ∙ ap (start_of net) (sym (take_more past i no_raise c.loop-raise-test.true))
