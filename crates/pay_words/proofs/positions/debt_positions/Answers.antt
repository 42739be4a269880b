use Rattle.std.proofs.Common.{◌≡◌, ℕ, ◌+◌, ◌<◌, ◌∙◌, [], ◌∷◌, ◌++◌, length, get_or, set, sym, ap, arith}
use Rattle.std.specs.Option.{option_map_or}
use Rattle.std.specs.Prelude.{Option}
use Rattle.std.proofs.lemmas.List.FromFn.{map-range_with_len_more}
use Rattle.clr_net.specs.declared.debt.Debt.{Debt}
use Rattle.clr_net.specs.Net.{creditor_of}
use Rattle.pay_words.specs.Positions.{position_of}
use Rattle.pay_words.proofs.SideBySide.{next_is, next_position, next_more, within}
use Rattle.pay_words.proofs.Tables.{length-tabled, tabled_at}
use Rattle.pay_words.proofs.positions.debt_positions.Goals as goal
use Rattle.pay_words.proofs.positions.debt_positions.Goals.{After-debt-creditor}

-- the number of the debt is one of the network's
in_range : (c : After-debt-creditor) → c.loop-number.number < length c.args.net.now.debts
in_range c = omega (arith, c.loop-number-test.true, c.debts-number-end.ensures.debts)

-- what was read is its creditor
read : (c : After-debt-creditor) → c.debt-creditor.result.creditor.0 ≡ creditor_of c.args.net.now c.loop-number.number
read c = sym (ap (λ (o : Option Debt). option_map_or (λ (d : Debt). d.creditor.0) o 0) c.debt-creditor.ensures)

-- which is a bank of the network
known : (c : After-debt-creditor) → creditor_of c.args.net.now c.loop-number.number < length c.args.net.now.banks
known c = (c.debts.ensures.network.each_debt c.loop-number.number (in_range c)).creditor_known

-- so it has a next position
listed : (c : After-debt-creditor) → c.debt-creditor.result.creditor.0 < length c.loop-number.next.items
listed c = omega (
  arith,
  read c,
  known c,
  ap length c.loop-number.invariant.next,
  length-tabled (length c.args.net.now.banks) (next_position c.args.net.now c.loop-number.number),
)

-- and that is the debt's
found : (c : After-debt-creditor) (n : ℕ) → n ≡ get_or c.loop-number.next.items c.debt-creditor.result.creditor.0 n → n ≡ position_of c.args.net.now c.loop-number.number
found c n is =
    let net = c.args.net.now in
    let m = c.loop-number.number in
    is ∙ (λ i. get_or (c.loop-number.invariant.next i) (read c i) n)
    ∙ tabled_at (length net.banks) (next_position net m) (creditor_of net m) n (known c)
    ∙ next_is net m

pub index-position-requires : goal.index-position-requires
index-position-requires c = omega (arith, listed (goal.at.index-position-requires c).After-debt-creditor, c.loop-number.next.ok.0)

pub push_reserved-requires : goal.push_reserved-requires
push_reserved-requires c = omega (
  arith,
  in_range (goal.at.push_reserved-requires c).After-debt-creditor,
  c.loop-number.invariant.room,
  ap length c.loop-number.invariant.items,
  length-tabled c.loop-number.number (position_of c.args.net.now),
  c.loop-number.of_debts.ok.0,
)

pub overflow_add-position : goal.overflow_add-position
overflow_add-position c = record {
  fits = omega (
    arith,
    found (goal.at.overflow_add-position c).After-debt-creditor _ c.index-position.ensures,
    within c.args.net.now c.loop-number.number (in_range (goal.at.overflow_add-position c).After-debt-creditor),
    c.debts.ensures.network.debts_in_limit,
  );
}

pub index_mut-requires : goal.index_mut-requires
index_mut-requires c = omega (arith, listed (goal.at.index_mut-requires c).After-debt-creditor, c.loop-number.next.ok.0)

pub loop-number-preserved : goal.loop-number-preserved
loop-number-preserved c =
    let net = c.args.net.now in
    let m = c.loop-number.number in
    let banks : ℕ = length net.banks in
    let is = found (goal.at.loop-number-preserved c).After-debt-creditor _ c.index-position.ensures in
    let to = read (goal.at.loop-number-preserved c).After-debt-creditor in
    record {
      next = (λ i. set (c.loop-number.invariant.next i) (to i) (is i + 1))
          ∙ next_more net banks m (known (goal.at.loop-number-preserved c).After-debt-creditor);
      items = c.push_reserved.ensures.items ∙ (λ i. c.loop-number.invariant.items i ++ is i ∷ [])
          ∙ sym (map-range_with_len_more (position_of net) 0 m m (omega arith));
      room = omega (arith, c.push_reserved.ensures.capacity, c.loop-number.invariant.room);
    }
