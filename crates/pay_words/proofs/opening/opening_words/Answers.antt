use Rattle.std.proofs.Common.{◌≡◌, ◌+◌, ◌<◌, ◌∙◌, length, set, sym, ap, arith, below_more, get_or-set_same, get_or-set_other, length-set}
use Rattle.std.specs.Prelude.{slice_index}
use Rattle.pay_words.specs.Positions.{position_of}
use Rattle.pay_words.proofs.SideBySide.{one_place, within}
use Rattle.pay_words.proofs.Tables.{length-tabled, tabled_at}
use Rattle.pay_words.proofs.opening.opening_words.Goals as goal
use Rattle.pay_words.proofs.opening.opening_words.Goals.{After-of_debt-position}

-- the position that was read is that of the debt
here : (c : After-of_debt-position) → c.of_debt-position.result ≡ position_of c.args.net.now c.loop-number.number
here c =
    let net = c.args.net.now in
    let m = c.loop-number.number in
    let lt : m < length net.debts = omega (arith, c.loop-number-test.true, c.debts-number-end.ensures.debts) in
    c.of_debt-position.ensures ∙ (λ i. slice_index (c.requires.positions.of_debts i) m)
    ∙ tabled_at (length net.debts) (position_of net) m 0 lt

-- so it is below the number of debts
low : (c : After-of_debt-position) → c.of_debt-position.result < length c.args.net.now.debts
low c = omega (
  arith,
  here c,
  within c.args.net.now c.loop-number.number (omega (arith, c.loop-number-test.true, c.debts-number-end.ensures.debts)),
)

pub of_debt-position-requires : goal.of_debt-position-requires
of_debt-position-requires c = omega (
  arith,
  c.loop-number-test.true,
  c.debts-number-end.ensures.debts,
  ap length c.requires.positions.of_debts,
  length-tabled (length c.args.net.now.debts) (position_of c.args.net.now),
)

pub overflow_add-position : goal.overflow_add-position
overflow_add-position c = record {
  fits = omega (
    arith,
    low (goal.at.overflow_add-position c).After-of_debt-position,
    c.debts.ensures.network.debts_in_limit,
  );
}

pub index_mut-requires : goal.index_mut-requires
index_mut-requires c = omega (
  arith,
  low (goal.at.index_mut-requires c).After-of_debt-position,
  c.loop-number.invariant.size,
  c.loop-number.words.ok.0,
)

pub loop-number-preserved : goal.loop-number-preserved
loop-number-preserved c =
    let net = c.args.net.now in
    let words = c.loop-number.words.items in
    let m = c.loop-number.number in
    let p = c.of_debt-position.result in
    let w = c.word.result in
    let at = here (goal.at.loop-number-preserved c).After-of_debt-position in
    let small = low (goal.at.loop-number-preserved c).After-of_debt-position in
    let lt : m < length net.debts = omega (arith, c.loop-number-test.true, c.debts-number-end.ensures.debts) in
    record {
      size = length-set words (p + 1) w ∙ c.loop-number.invariant.size;
      roll = get_or-set_other words (p + 1) 0 w 0 (λ e. absurd (omega (arith, e))) ∙ c.loop-number.invariant.roll;
      paid = below_more _ _
          (λ x l. get_or-set_other words (p + 1) (position_of net x + 1) w 0
          (λ e. absurd (omega (arith, l, one_place net x m (omega (arith, l, lt)) lt (omega (arith, e, at))))) ∙ c.loop-number.invariant.paid x l)
          ((λ i. slice_index (set words (p + 1) w) (sym at i + 1)) ∙ get_or-set_same words (p + 1) w 0 (omega (arith, small, c.loop-number.invariant.size))
          ∙ c.word.ensures);
      up = λ b l. get_or-set_other words (p + 1) (length net.debts + 1 + b) w 0 (λ e. absurd (omega (arith, e, small))) ∙ c.loop-number.invariant.up b l;
    }
