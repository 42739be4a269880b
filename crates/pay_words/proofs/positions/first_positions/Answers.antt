use Rattle.std.proofs.Common.{◌≡◌, ◌+◌, ◌∙◌, [], ◌∷◌, ◌++◌, length, sym, ap, arith}
use Rattle.std.proofs.lemmas.List.FromFn.{map-range_with_len_more}
use Rattle.clr_net.specs.Net.{column}
use Rattle.clear_core.proofs.Rows.{as_many_numbers}
use Rattle.pay_words.specs.Positions.{first_position}
use Rattle.pay_words.proofs.SideBySide.{first_behind, first_low, first_zero}
use Rattle.pay_words.proofs.Tables.{length-tabled}
use Rattle.pay_words.proofs.positions.first_positions.Goals as goal
use Rattle.pay_words.proofs.positions.first_positions.Goals.{After-column}

-- behind the debts to the bank begin those to the next
behind : (c : After-column) → c.loop-number.first + length c.column.result.now ≡ first_position c.args.net.now (c.loop-number.number + 1)
behind c = omega (
  arith,
  c.loop-number.invariant.first,
  as_many_numbers c.column.result.now (column c.args.net.now c.loop-number.number) c.column.ensures,
  first_behind c.args.net.now c.loop-number.number,
)

pub loop-number-init : goal.loop-number-init
loop-number-init c = record {
  items = c.in_ok-firsts.ensures.items;
  first = sym (first_zero c.args.net.now);
  room = omega (arith, c.in_ok-firsts.ensures.capacity, c.banks.ensures.banks);
}

pub push_reserved-requires : goal.push_reserved-requires
push_reserved-requires c = omega (
  arith,
  c.loop-number-test.true,
  c.loop-number.invariant.room,
  ap length c.loop-number.invariant.items,
  length-tabled c.loop-number.number (first_position c.args.net.now),
  c.loop-number.firsts.ok.0,
  c.banks-number-end.ensures.banks,
)

pub overflow_cast-first : goal.overflow_cast-first
overflow_cast-first c = record {
  fits = omega (
    arith,
    behind (goal.at.overflow_cast-first c).After-column,
    first_low c.args.net.now (c.loop-number.number + 1),
    c.banks.ensures.network.debts_in_limit,
  );
}

pub overflow_add-first : goal.overflow_add-first
overflow_add-first c = record {
  fits = omega (
    arith,
    behind (goal.at.overflow_add-first c).After-column,
    first_low c.args.net.now (c.loop-number.number + 1),
    c.banks.ensures.network.debts_in_limit,
  );
}

pub loop-number-preserved : goal.loop-number-preserved
loop-number-preserved c =
    let net = c.args.net.now in
    let m = c.loop-number.number in
    record {
      items = c.push_reserved.ensures.items ∙ (λ i. c.loop-number.invariant.items i ++ c.loop-number.invariant.first i ∷ [])
          ∙ sym (map-range_with_len_more (first_position net) 0 m m (omega arith));
      first = behind (goal.at.loop-number-preserved c).After-column;
      room = omega (arith, c.push_reserved.ensures.capacity, c.loop-number.invariant.room);
    }
