use Rattle.std.proofs.Common.{ℕ, replicate, refl, ap, ◌∙◌}
use Rattle.clear_core.specs.declared.payments.Sums.{Sums}
use Rattle.clear_core.proofs.Summing.{no_sums}
use Rattle.clear_core.proofs.payments.Payments.none.Goals as goal

pub returns-clause-sums : goal.returns-clause-sums
returns-clause-sums c =
    let nothing : Sums = record { received = 0; paid = 0 } in
    no_sums c.args.net.now c.in_ok-zeros.field-0 c.in_ok-vec.field-0.items nothing
    (c.in_ok-zeros.ensures ∙ ap (λ (n : ℕ). replicate n 0) c.debts.ensures.debts) refl refl
    (c.in_ok-vec.ensures.items_if_clones_equal (λ y e. e) ∙ ap (λ (n : ℕ). replicate n nothing) c.banks.ensures.banks)
