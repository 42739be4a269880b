use Rattle.std.proofs.Common.{ℕ, ◌∙◌, max, List, map, take, ap, sym}
use Rattle.std.specs.Prelude.{slice_index_or}
use Rattle.std.proofs.lemmas.List.{take_all, map_more}
use Rattle.pay_words.specs.declared.payment.Payment.{Payment}
use Rattle.pay_words.specs.Words.{unpaid}
use Rattle.pay_words.specs.Seating.{greatest}
use Rattle.pay_words.proofs.Openings.{greatest_more}
use Rattle.pay_words.proofs.opening.greatest_stamp.Goals as goal

pub loop-payment-preserved : goal.loop-payment-preserved
loop-payment-preserved c =
    let stamp : Payment → ℕ = λ p. p.stamp in
    let done = map stamp (take c.loop-payment.payment-index c.args.start.now) in
    let next = slice_index_or c.args.start.now c.loop-payment.payment-index unpaid in
    c.max-stamp.ensures ∙ ap (max next.stamp) c.loop-payment.invariant ∙ sym (greatest_more done next.stamp)
    ∙ ap greatest (sym (map_more stamp c.args.start.now c.loop-payment.payment-index unpaid c.loop-payment-test.true))

pub returns : goal.returns
returns c = c.loop-payment.invariant ∙ ap (λ (ps : List Payment). greatest (map (λ p. p.stamp) ps)) (take_all c.loop-payment.payment-index c.args.start.now c.loop-payment-test.false)
