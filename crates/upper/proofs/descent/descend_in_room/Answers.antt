use Rattle.std.proofs.Common.{ℕ, length, ap, ◌∙◌}
use Rattle.std.proofs.lemmas.List.{length-replicate}
use Rattle.upper.proofs.descent.descend_in_room.Goals as goal

pub descend-requires-clause-network : goal.descend-requires-clause-network
descend-requires-clause-network g c = c.debts.ensures.network

pub descend-requires-clause-never_falls : goal.descend-requires-clause-never_falls
descend-requires-clause-never_falls g c = c.requires.never_falls

pub descend-requires-clause-paid : goal.descend-requires-clause-paid
descend-requires-clause-paid g c = c.requires.paid

pub descend-requires-clause-waves : goal.descend-requires-clause-waves
descend-requires-clause-waves g c = c.requires.waves

pub descend-requires-clause-next : goal.descend-requires-clause-next
descend-requires-clause-next g c =
    ap length (c.as_mut_slice.ensures.now ∙ c.in_ok-next.ensures)
    ∙ length-replicate {A = ℕ} c.debts.result 0 ∙ c.debts.ensures.debts

pub descend-requires-clause-scratch : goal.descend-requires-clause-scratch
descend-requires-clause-scratch g c = c.in_ok-of.ensures

pub descend-requires-clause-last : goal.descend-requires-clause-last
descend-requires-clause-last g c = c.in_ok-of_all.ensures

pub descend-requires-clause-falls : goal.descend-requires-clause-falls
descend-requires-clause-falls g c = c.in_ok-none.ensures

pub returns-clause-paid : goal.returns-clause-paid
returns-clause-paid g c = c.descend.ensures.paid

pub returns-clause-waves : goal.returns-clause-waves
returns-clause-waves g c = c.descend.ensures.waves
