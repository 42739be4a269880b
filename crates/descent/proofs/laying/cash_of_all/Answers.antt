use Rattle.std.proofs.Common.{◌∷◌, [], get_or, length, ap, sym, ◌∙◌, below_more, arith}
use Rattle.std.proofs.lemmas.List.{get_or_append_left, get_or_push, length_push}
use Rattle.cascade.proofs.CashAt.{cash_read}
use Rattle.descent.proofs.laying.cash_of_all.Goals as goal

pub loop-number-preserved : goal.loop-number-preserved
loop-number-preserved c =
    let at = c.loop-number in
    let n = at.number in
    let units = c.bank.result.now.cash in
    let new = c.in_ok-push.ensures.items in
    record {
      as_many = ap length new ∙ length_push at.cash.items units ∙ omega (arith, at.invariant.as_many);
      each = below_more _ n
          (λ i l. ap (λ us. get_or us i 0) new ∙ get_or_append_left at.cash.items (units ∷ []) 0 i (omega (arith, at.invariant.as_many)) ∙ at.invariant.each i l)
          (ap (λ us. get_or us n 0) new ∙ get_or_push at.cash.items units 0 n at.invariant.as_many
          ∙ sym (cash_read c.args.net.now n c.bank.result.now c.bank.ensures));
    }
