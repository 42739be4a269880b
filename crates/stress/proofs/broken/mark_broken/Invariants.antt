use Rattle.std.proofs.Common.{◌≡◌, ◌==◌, map, take}
use Rattle.stress.specs.declared.broken.Broken.{Broken}
use Rattle.stress.proofs.broken.mark_broken.Given as goal

abbrev pub invariant-loop-place : goal.invariant-loop-place
invariant-loop-place l =
    take l.place l.marks ≡ map (λ (known : Broken). known.cut == l.last) (take l.place l.all)
