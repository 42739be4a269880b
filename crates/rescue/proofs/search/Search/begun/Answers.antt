use Rattle.std.proofs.Common.{◌≡◌, sym, ap, ◌∙◌, subst, arith}
use Rattle.clear_core.specs.Clearing.{Clears, least}
use Rattle.clear_core.proofs.Least.{least_clears}
use Rattle.cascade.proofs.CashAt.{cash_read}
use Rattle.cascade.proofs.Limits.{clearing_over, clearing_in_limit}
use Rattle.rescue.specs.Bound.{missing}
use Rattle.rescue.specs.Rescue.{added}
use Rattle.rescue.proofs.MoreCash.{added_nothing, with_less}
use Rattle.rescue.proofs.Searching.{as_many_banks, range_begun}
use Rattle.rescue.proofs.search.Search.begun.Goals as goal
use Rattle.rescue.proofs.search.Search.begun.Goals.{After-saturating_sub-high, In_ok-copy_of}

-- the greatest sum is what is missing
is_missing : (c : After-saturating_sub-high)
    → c.saturating_sub-high.result ≡ missing c.args.net.now c.args.bank.0
is_missing c = omega (
  arith,
  c.saturating_sub-high.ensures,
  c.due.ensures,
  cash_read c.args.net.now c.args.bank.0 c.bank.result.now c.bank.ensures,
)

-- the payments that it begins with clear
clears : (c : In_ok-copy_of) → Clears c.args.net.now c.in_ok-copy_of.field-0
clears c =
    let net = c.args.net.now in
    subst (Clears net) (sym (c.in_ok-copy_of.ensures ∙ c.requires.least)) (least_clears net)

pub of-requires-clause-over : goal.of-requires-clause-over
of-requires-clause-over c =
    let at = goal.at.of-requires-clause-over c in
    clearing_over c.args.net.now _ (clears at.In_ok-copy_of)

pub of-requires-clause-paid_in_limit : goal.of-requires-clause-paid_in_limit
of-requires-clause-paid_in_limit c =
    let at = goal.at.of-requires-clause-paid_in_limit c in
    clearing_in_limit c.args.net.now _ c.requires.network (clears at.In_ok-copy_of)

pub paid_with-requires-clause-sum : goal.paid_with-requires-clause-sum
paid_with-requires-clause-sum c =
    let at = goal.at.paid_with-requires-clause-sum c in
    omega (arith, is_missing at.After-saturating_sub-high)

pub paid_with-requires-clause-from : goal.paid_with-requires-clause-from
paid_with-requires-clause-from c =
    let net = c.args.net.now in
    let i = c.args.bank.0 in
    with_less net i 0 c.saturating_sub-high.result c.in_ok-from.from.paid c.requires.bank (omega arith)
    (c.in_ok-from.ensures.paid ∙ c.in_ok-copy_of.ensures ∙ c.requires.least ∙ ap least (sym (added_nothing net i)))

pub received-receipts-requires-clause-bank : goal.received-receipts-requires-clause-bank
received-receipts-requires-clause-bank c =
    omega (
      arith,
      c.requires.bank,
      as_many_banks c.args.net.now c.args.bank.0 c.paid_with.new.self.more
          c.paid_with.ensures.search.differ,
    )

pub received-receipts-requires-clause-clears : goal.received-receipts-requires-clause-clears
received-receipts-requires-clause-clears c =
    rw (c.paid_with.ensures.more, c.as_slice.ensures ∙ c.in_ok-enough.ensures.paid)
    (least_clears (added c.args.net.now c.args.bank.0 c.saturating_sub-high.result))

pub paid_with-requires-2-clause-sum : goal.paid_with-requires-2-clause-sum
paid_with-requires-2-clause-sum c =
    let at = goal.at.paid_with-requires-2-clause-sum c in
    omega (
      arith,
      is_missing at.After-saturating_sub-high,
      c.saturating_sub-low.ensures,
      c.saturating_sub-one_less.ensures,
    )

pub paid_with-requires-2-clause-from : goal.paid_with-requires-2-clause-from
paid_with-requires-2-clause-from c =
    let net = c.args.net.now in
    let i = c.args.bank.0 in
    with_less net i 0 c.saturating_sub-one_less.result c.in_ok-from.from.paid c.requires.bank (omega arith)
    (c.in_ok-from.ensures.paid ∙ c.in_ok-copy_of.ensures ∙ c.requires.least ∙ ap least (sym (added_nothing net i)))

pub lacks-requires-clause-bank : goal.lacks-requires-clause-bank
lacks-requires-clause-bank c =
    omega (
      arith,
      c.requires.bank,
      as_many_banks c.args.net.now c.args.bank.0 c.paid_with-2.new.self.more
          c.paid_with-2.ensures.search.differ,
    )

pub lacks-requires-clause-clears : goal.lacks-requires-clause-clears
lacks-requires-clause-clears c =
    rw (c.paid_with-2.ensures.more, c.as_slice-2.ensures ∙ c.in_ok-less.ensures.paid)
    (least_clears (added c.args.net.now c.args.bank.0 c.saturating_sub-one_less.result))

pub returns-clause-range : goal.returns-clause-range
returns-clause-range c =
    let at = goal.at.returns-clause-range c in
    range_begun c.args.net.now c.args.bank.0 c.requires.network _ c.received-receipts.result
    c.saturating_sub-one_less.result c.lacks.result c.paid_with.new.self.more
    c.paid_with-2.new.self.more c.as_slice.result.now c.as_slice-2.result.now c.requires.bank
    (is_missing at.After-saturating_sub-high) c.paid_with.ensures.more
    (c.as_slice.ensures ∙ c.in_ok-enough.ensures.paid) c.received-receipts.ensures
    c.saturating_sub-low.ensures c.saturating_sub-one_less.ensures c.paid_with-2.ensures.more
    (c.as_slice-2.ensures ∙ c.in_ok-less.ensures.paid) c.lacks.ensures c.if_any-short.ensures
    c.in_ok-less.ensures.paid c.in_ok-less.ensures.sums c.in_ok-enough.ensures.paid
    c.in_ok-enough.ensures.sums
