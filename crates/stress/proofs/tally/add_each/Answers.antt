use Rattle.std.proofs.Common.{refl, arith}
use Rattle.stress.specs.Outcomes.{added, both}
use Rattle.stress.proofs.Places.{never, paired}
use Rattle.stress.proofs.tally.add_each.Goals as goal

pub both-requires-clause-a : goal.both-requires-clause-a
both-requires-clause-a c =
    let i = c.loop-place.place in
    rw (c.loop-place.invariant.rest i never (omega arith)) (c.requires.fits i never (omega arith))

pub returns : goal.returns
returns c =
    paired both added refl (λ a b xs ys. refl) c.loop-place.falls c.args.falls.now c.args.others.now
    (omega arith) (omega arith) (λ k d l. c.loop-place.invariant.done k d (omega arith))
