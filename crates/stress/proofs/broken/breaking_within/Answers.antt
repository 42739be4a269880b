use Rattle.std.proofs.Common.{ℕ, replicate, ap, ◌∙◌, arith}
use Rattle.clear_core.proofs.WrittenRows.{written_back}
use Rattle.stress.specs.Breaking.{unbroken}
use Rattle.stress.proofs.broken.breaking_within.Goals as goal

pub go_down-requires-clause-unbroken : goal.go_down-requires-clause-unbroken
go_down-requires-clause-unbroken c =
    c.as_mut_slice.ensures.value
    ∙ c.in_ok-all.ensures.items_if_clones_equal (λ y e. e)
    ∙ ap (λ (n : ℕ). replicate n (unbroken c.args.high)) c.banks.ensures.banks

pub returns : goal.returns
returns c =
    written_back c.in_ok-all.all.len c.go_down.new.all _ (omega arith)
    ∙ c.go_down.ensures
