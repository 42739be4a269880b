use Rattle.std.proofs.Common.{ℕ, ◌∙◌, List, [], ◌∷◌, ◌++◌, map, ap, sym, arith}
use Rattle.std.proofs.lemmas.List.{take_all, map_more}
use Rattle.std.specs.Prelude.{slice_index_or}
use Rattle.pay_words.specs.declared.payment.Payment.{Payment}
use Rattle.pay_words.specs.Words.{unpaid}
use Rattle.pay_words.proofs.paid.Paid.of.Goals as goal

pub push_reserved-requires : goal.push_reserved-requires
push_reserved-requires c = omega (arith, c.loop-payment.invariant.len, c.loop-payment.invariant.room, c.loop-payment-test.true)

pub loop-payment-preserved : goal.loop-payment-preserved
loop-payment-preserved c =
    let value : Payment → ℕ = λ q. q.value in
    let next = slice_index_or c.args.start.now c.loop-payment.payment-index unpaid in record {
      items =
          c.push_reserved.ensures.items
          ∙ ap (λ (vs : List ℕ). vs ++ next.value ∷ []) c.loop-payment.invariant.items
          ∙ sym (map_more value c.args.start.now c.loop-payment.payment-index unpaid c.loop-payment-test.true);
      len = omega (arith, c.push_reserved.ensures.len, c.loop-payment.invariant.len);
      room = omega (arith, c.push_reserved.ensures.capacity, c.loop-payment.invariant.room);
    }

pub returns : goal.returns
returns c = c.loop-payment.invariant.items ∙ ap (λ (ps : List Payment). map (λ q. q.value) ps) (take_all c.loop-payment.payment-index c.args.start.now c.loop-payment-test.false)
