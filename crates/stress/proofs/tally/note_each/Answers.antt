use Rattle.std.proofs.Common.{get_or, refl, sym, ap, ◌∙◌, arith}
use Rattle.std.proofs.lemmas.List.{get_or-map, length-map}
use Rattle.cascade.specs.declared.standing.Standing.{Standing}
use Rattle.stress.specs.Outcomes.{added, both, once, tally_of_one}
use Rattle.stress.proofs.Outcomes.{past_end}
use Rattle.stress.proofs.Places.{never, paired}
use Rattle.stress.proofs.tally.note_each.Goals as goal

pub both-requires-clause-a : goal.both-requires-clause-a
both-requires-clause-a c =
    let i = c.loop-place.place in
    rw (c.loop-place.invariant.rest i never (omega arith)) (c.requires.fits i never (omega arith))

pub returns : goal.returns
returns c =
    let all = c.args.standings.now in
    let told = λ (s : Standing). once s.health in
    paired both added refl (λ a b xs ys. refl) c.loop-place.falls c.args.falls.now (tally_of_one all)
    (omega arith) (omega (arith, length-map all told)) (λ k d l.
    c.loop-place.invariant.done k d past_end (omega arith)
    ∙ ap (both (get_or c.args.falls.now k d)) (sym (get_or-map told all k past_end d (omega arith))))
