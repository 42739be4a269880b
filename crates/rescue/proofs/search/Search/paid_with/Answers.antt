use Rattle.std.proofs.Common.{◌≡◌, ◌+◌, length, ap, sym, ◌∙◌, subst, arith}
use Rattle.clr_net.specs.Net.{Net, cash_of}
use Rattle.clear_core.specs.Buffers.{HasRoom}
use Rattle.clear_core.specs.Clearing.{least}
use Rattle.clear_core.specs.Sums.{AreSums}
use Rattle.cascade.proofs.CashAt.{length-with_cash}
use Rattle.rescue.specs.Rescue.{DifferInCash, added}
use Rattle.rescue.proofs.MoreCash.{swept_at_bank}
use Rattle.clear_core.proofs.WrittenRows.{written_back}
use Rattle.rescue.proofs.Searching.{as_many_banks, set_to_sum, still_differ, sum_fits, sums_added, sums_without}
use Rattle.rescue.proofs.search.Search.paid_with.Goals as goal
use Rattle.rescue.proofs.search.Search.paid_with.Goals.{After-set_cash}

-- with the sum the copy is the network of the definition
is_added : (c : After-set_cash) → c.set_cash.new.self
    ≡ added c.args.net.now c.args.bank.0 c.args.sum
is_added c =
    set_to_sum c.args.net.now c.args.bank.0 c.requires.network c.bank.result.now c.bank.ensures
    c.requires.bank c.args.self.now.more c.set_cash.new.self c.args.sum c.requires.search.differ
    c.set_cash.ensures

-- and differs from the first in the bank's cash at most
differs : (c : After-set_cash) → DifferInCash c.args.net.now c.set_cash.new.self c.args.bank.0
differs c =
    still_differ c.args.net.now c.args.bank.0 c.args.self.now.more c.set_cash.new.self _
    c.requires.search.differ c.set_cash.ensures

pub overflow_add-bank : goal.overflow_add-bank
overflow_add-bank c =
    omega (
      arith,
      sum_fits c.args.net.now c.args.bank.0 c.requires.network c.bank.result.now c.bank.ensures
          c.requires.bank c.args.sum c.requires.sum,
    )

pub set_cash-requires-clause-bank : goal.set_cash-requires-clause-bank
set_cash-requires-clause-bank c =
    let as_many = as_many_banks c.args.net.now c.args.bank.0 c.args.self.now.more
    c.requires.search.differ in
    omega (arith, c.requires.bank, as_many)

pub set_cash-requires-clause-cash : goal.set_cash-requires-clause-cash
set_cash-requires-clause-cash c =
    sum_fits c.args.net.now c.args.bank.0 c.requires.network c.bank.result.now c.bank.ensures
    c.requires.bank c.args.sum c.requires.sum

pub prove-unreachable-requires : goal.prove-unreachable-requires
prove-unreachable-requires c =
    let at = goal.at.prove-unreachable-requires c in
    let as_many = as_many_banks c.args.net.now c.args.bank.0 c.set_cash.new.self
    (differs at.After-set_cash) in
    omega (arith, c.requires.bank, as_many)

pub least_again-requires-clause-swept : goal.least_again-requires-clause-swept
least_again-requires-clause-swept c =
    let net = c.args.net.now in
    let i = c.args.bank.0 in
    let at = goal.at.least_again-requires-clause-swept c in
    let cash : c.set_cash.new.self ≡ added net i c.args.sum = is_added at.After-set_cash in
    let back : c.as_mut_slice-2.result.now ≡ c.mark.new.marks =
    c.as_mut_slice-2.ensures.value
    ∙ written_back c.args.self.now.marks.len c.mark.new.marks _ (omega arith) in
    rw (cash, c.in_ok-payments.ensures.paid, back)
    (swept_at_bank (added net i c.args.sum) i c.args.from.now.paid c.mark.new.marks c.requires.from
    (omega (
      arith,
      length-with_cash net i (cash_of net i + c.args.sum),
      c.requires.search.for_each_bank,
    )) c.mark.ensures)

pub least_again-requires-clause-room : goal.least_again-requires-clause-room
least_again-requires-clause-room c =
    let at = goal.at.least_again-requires-clause-room c in
    subst (λ (m : Net). HasRoom m c.args.self.now.scratch) (sym (is_added at.After-set_cash))
    c.requires.search.room

pub returns-clause-search : goal.returns-clause-search
returns-clause-search c = record {
  differ = differs (goal.at.returns-clause-search c).After-set_cash;
  for_each_bank = ap length (written_back c.args.self.now.marks.len c.least_again.new.marks _ (omega arith))
      ∙ omega (arith, c.requires.search.for_each_bank);
  room = λ j. omega (arith, c.requires.search.room j, c.least_again.ensures.room);
}

pub returns-clause-more : goal.returns-clause-more
returns-clause-more c = is_added (goal.at.returns-clause-more c).After-set_cash

pub returns-clause-paid : goal.returns-clause-paid
returns-clause-paid c =
    let at = goal.at.returns-clause-paid c in
    c.least_again.ensures.payments ∙ ap least (is_added at.After-set_cash)

pub least_again-requires-clause-sums : goal.least_again-requires-clause-sums
least_again-requires-clause-sums c =
    let at = goal.at.least_again-requires-clause-sums c in
    let from = c.args.from.now in
    rw (is_added at.After-set_cash, c.in_ok-payments.ensures.paid, c.in_ok-payments.ensures.sums)
    (sums_added c.args.net.now c.args.bank.0 c.args.sum from.paid from.sums.items c.requires.sums)

pub returns-clause-sums : goal.returns-clause-sums
returns-clause-sums c =
    let at = goal.at.returns-clause-sums c in
    let all = c.least_again.new.payments in
    let kept : AreSums (added c.args.net.now c.args.bank.0 c.args.sum) all.paid all.sums.items =
    rw (is_added at.After-set_cash) at c.least_again.ensures.sums in
    sums_without c.args.net.now c.args.bank.0 c.args.sum all.paid all.sums.items kept

pub returns-in_err-payments-clause-search : goal.returns-in_err-payments-clause-search
returns-in_err-payments-clause-search c = record {
  differ = differs (goal.at.returns-in_err-payments-clause-search c).After-set_cash;
  for_each_bank = c.requires.search.for_each_bank;
  room = c.requires.search.room;
}

pub returns-in_err-payments-clause-more : goal.returns-in_err-payments-clause-more
returns-in_err-payments-clause-more c =
    is_added (goal.at.returns-in_err-payments-clause-more c).After-set_cash
