use Rattle.std.proofs.Common.{◌≡◌, ℕ, ◌-◌, ◌≤◌, drop, length, sym, take, ap, ◌∙◌, arith}
use Rattle.descent.specs.Cashes.{cash_in_row, lowest}
use Rattle.stress.specs.Outcomes.{tally}
use Rattle.clear_many.proofs.halved.HalvedPieceworkVecU8Counting.desk.Goals as goal

pub returns : goal.returns
returns c = λ low.
    let w = c.args.self.now in
    let rows = w.table.now.rows.items in
    let none : low - low ≡ 0 = omega arith in
    let same : low ≤ low = omega arith in (
      same,
      c.in_ok-of.ensures (length rows) (λ (a b i : ℕ). lowest (cash_in_row rows i) a b),
      c.in_ok-empty.ensures
          ∙ ap (λ (n : ℕ). tally w.net.now (take n (drop low w.scenarios.now))) (sym none),
    )
