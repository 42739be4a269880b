use Rattle.std.proofs.Common.{◌≡◌, ℕ, ◌-◌, ◌≤◌, drop, refl, sym, take, ap, ◌∙◌, arith}
use Rattle.cascade.specs.MoreCash.{IsOfOtherCash}
use Rattle.stress.specs.Outcomes.{tally}
use Rattle.clear_many.proofs.singly.SinglyPieceworkVecU8Counting.desk.Goals as goal

pub returns : goal.returns
returns c = λ low.
    let w = c.args.self.now in
    let none : low - low ≡ 0 = omega arith in
    let same : low ≤ low = omega arith in
    let alike : IsOfOtherCash w.net.now c.in_ok-copy.field-0 = rw c.in_ok-copy.ensures (refl, refl) in (
      same,
      alike,
      c.in_ok-empty.ensures
          ∙ ap (λ (n : ℕ). tally w.net.now (take n (drop low w.scenarios.now))) (sym none),
    )
