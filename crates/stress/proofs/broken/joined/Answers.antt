use Rattle.std.proofs.Common.{◌==◌, cond, refl, arith}
use Rattle.stress.specs.Breaking.{joined}
use Rattle.stress.specs.declared.broken.Broken.{Broken}
use Rattle.stress.proofs.Places.{paired}
use Rattle.stress.proofs.broken.joined.Goals as goal

pub returns : goal.returns
returns c =
    paired (λ (a b : Broken). cond (a.cut == c.args.middle) b a) (joined c.args.middle) refl
    (λ a b xs ys. refl) c.loop-place.all.items c.args.lower.items c.args.upper.now
    c.loop-place.invariant.as_many (omega arith)
    (λ k d l. c.loop-place.invariant.done k d (omega arith))
