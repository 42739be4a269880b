use Rattle.std.proofs.Common.{ℕ, length, replicate, ap, ◌∙◌}
use Rattle.std.proofs.lemmas.List.{length-replicate}
use Rattle.upper.proofs.descent.descend_by.Goals as goal

pub descend_in_room-requires-clause-never_falls : goal.descend_in_room-requires-clause-never_falls
descend_in_room-requires-clause-never_falls g c = c.requires.never_falls

pub descend_in_room-requires-clause-paid : goal.descend_in_room-requires-clause-paid
descend_in_room-requires-clause-paid g c =
    ap length (c.as_mut_slice.ensures.now ∙ c.in_ok-greatest.ensures)
    ∙ length-replicate {A = ℕ} c.debts.result 0 ∙ c.debts.ensures.debts

pub descend_in_room-requires-clause-waves : goal.descend_in_room-requires-clause-waves
descend_in_room-requires-clause-waves g c =
    c.as_mut_slice-2.ensures.now ∙ c.in_ok-waves.ensures
    ∙ ap (λ (n : ℕ). replicate {A = ℕ} n 0) c.banks.ensures.banks

pub returns-clause-network : goal.returns-clause-network
returns-clause-network g c = c.debts.ensures.network
