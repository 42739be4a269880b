use Rattle.std.proofs.Common.{◌≡◌, ◌-◌, ap, sym, ◌∙◌, arith}
use Rattle.clear_core.specs.Clearing.{least}
use Rattle.clear_core.proofs.Least.{least_clears}
use Rattle.rescue.specs.Rescue.{added, lacks}
use Rattle.rescue.proofs.MoreCash.{with_less}
use Rattle.rescue.proofs.Searching.{as_many_banks, lacks_told, search_higher, search_lower}
use Rattle.rescue.proofs.search.Search.narrowed.Goals as goal
use Rattle.rescue.proofs.search.Search.narrowed.Goals.{After-lacks-lacking}

-- what the bank lacks with the sum that is tried
is_lacking : (c : After-lacks-lacking)
    → c.lacks-lacking.result ≡ lacks c.args.net.now c.args.bank.0 c.tried-sum.result
is_lacking c =
    c.lacks-lacking.ensures
    ∙ lacks_told c.args.net.now c.args.bank.0 c.paid_with.new.self.more c.tried-sum.result _
    c.paid_with.ensures.more
    (c.as_slice.ensures ∙ c.in_ok-payments.ensures.paid ∙ ap least (sym c.paid_with.ensures.more))

pub paid_with-requires-clause-sum : goal.paid_with-requires-clause-sum
paid_with-requires-clause-sum c = omega (arith, c.requires.range.within, c.tried-sum.ensures.below)

pub paid_with-requires-clause-from : goal.paid_with-requires-clause-from
paid_with-requires-clause-from c =
    with_less c.args.net.now c.args.bank.0 (c.args.range.low - 1) c.tried-sum.result _
    c.requires.bank (omega (arith, c.tried-sum.ensures.from))
    c.requires.range.less

pub lacks-lacking-requires-clause-bank : goal.lacks-lacking-requires-clause-bank
lacks-lacking-requires-clause-bank c =
    omega (
      arith,
      c.requires.bank,
      as_many_banks c.args.net.now c.args.bank.0 c.paid_with.new.self.more
          c.paid_with.ensures.search.differ,
    )

pub lacks-lacking-requires-clause-clears : goal.lacks-lacking-requires-clause-clears
lacks-lacking-requires-clause-clears c =
    rw (c.paid_with.ensures.more, c.as_slice.ensures ∙ c.in_ok-payments.ensures.paid)
    (least_clears (added c.args.net.now c.args.bank.0 c.tried-sum.result))

pub returns-then-lacking-eq0-clause-range : goal.returns-then-lacking-eq0-clause-range
returns-then-lacking-eq0-clause-range c =
    let at = goal.at.returns-then-lacking-eq0-clause-range c in
    search_lower c.args.net.now c.args.bank.0 c.requires.network c.args.range c.tried-sum.result _
    c.requires.range c.tried-sum.ensures.from c.tried-sum.ensures.below
    (sym (is_lacking at.After-lacks-lacking) ∙ c.if-lacking-eq0.true) c.in_ok-payments.ensures.paid c.in_ok-payments.ensures.sums

pub returns-clause-range : goal.returns-clause-range
returns-clause-range c =
    let at = goal.at.returns-clause-range c in
    search_higher c.args.net.now c.args.bank.0 c.requires.network c.args.range c.tried-sum.result
    c.lacks-lacking.result _ _ c.requires.range c.tried-sum.ensures.below
    (is_lacking at.After-lacks-lacking) (omega arith) c.in_ok-payments.ensures.paid c.in_ok-payments.ensures.sums
