use Rattle.std.proofs.Common.{ap, ◌∙◌, replicate, ℕ}
use Rattle.stress.specs.declared.tally.Falls.{Falls}
use Rattle.stress.proofs.Outcomes.{none_fall}
use Rattle.stress.proofs.tally.Tally.empty.Goals as goal

pub returns : goal.returns
returns c =
    let never : Falls = record { defaults = 0; fundamental = 0 } in
    none_fall c.args.net.now c.in_ok-vec.field-0.items
    (c.in_ok-vec.ensures.items_if_clones_equal (λ y e. e) ∙ ap (λ (n : ℕ). replicate n never) c.banks.ensures.banks)
