use Rattle.std.proofs.Common.{◌≡◌, false, ap, ◌∙◌, arith}
use Rattle.std.proofs.lemmas.Bool.{OnFalse_at, OnFalse_from}
use Rattle.clear_core.specs.Clearing.{division_of, receipts}
use Rattle.clear_core.specs.declared.payments.Sums.{Sums}
use Rattle.clear_core.proofs.Summing.{receipts_in_limit}
use Rattle.clear_least.specs.Sweeps.{IsQuietBy}
use Rattle.clear_least.proofs.Sweeping.{awards_rise, quiet_where_same, sweep_on}
use Rattle.clear_least.proofs.Way.{way_in_limit}
use Rattle.clear_least.proofs.sweep.pay_bank.Goals as goal

pub spend-units-requires-clause-receipts : goal.spend-units-requires-clause-receipts
spend-units-requires-clause-receipts g c =
    let net = c.args.net.now in
    let i = c.args.bank.0 in
    let before = c.args.payments.now.paid in
    let limit = way_in_limit net (g.S.Spending.spends c.args.spending.now net) before c.requires.swept.way c.requires.network in
    omega (
      arith,
      ap (λ (s : Sums). s.received) c.index.ensures,
      c.requires.sums.received i c.index.result.now c.requires.bank,
      receipts_in_limit net before i c.requires.network limit,
    )

pub raise_row-requires-clause-paid_in_limit : goal.raise_row-requires-clause-paid_in_limit
raise_row-requires-clause-paid_in_limit g c =
    let net = c.args.net.now in
    way_in_limit net (g.S.Spending.spends c.args.spending.now net) c.args.payments.now.paid c.requires.swept.way
    c.requires.network

pub raise_row-requires-clause-rises : goal.raise_row-requires-clause-rises
raise_row-requires-clause-rises g c =
    let net = c.args.net.now in
    let i = c.args.bank.0 in
    let f = g.S.Spending.spends c.args.spending.now net in
    let received : c.index.result.now.received ≡ receipts net c.args.payments.now.paid i =
    ap (λ (s : Sums). s.received) c.index.ensures ∙ c.requires.sums.received i c.index.result.now c.requires.bank in
    let given : division_of net i c.spend-units.result ≡ division_of net i (f i (receipts net c.args.payments.now.paid i)) =
    ap (division_of net i) (c.spend-units.ensures ∙ ap (f i) received) in
    awards_rise net f c.args.payments.now.paid c.args.marks.now c.requires.swept i _ given

pub returns-clause-swept : goal.returns-clause-swept
returns-clause-swept g c =
    let net = c.args.net.now in
    let i = c.args.bank.0 in
    let f = g.S.Spending.spends c.args.spending.now net in
    let after = c.raise_row.new in
    let received : c.index.result.now.received ≡ receipts net c.args.payments.now.paid i =
    ap (λ (s : Sums). s.received) c.index.ensures ∙ c.requires.sums.received i c.index.result.now c.requires.bank in
    let given : division_of net i c.spend-units.result ≡ division_of net i (f i (receipts net c.args.payments.now.paid i)) =
    ap (division_of net i) (c.spend-units.ensures ∙ ap (f i) received) in
    sweep_on net f c.args.payments.now.paid c.args.marks.now c.requires.swept i _ after.payments.paid after.marks
    given c.raise_row.ensures.raised

pub returns-clause-quiet : goal.returns-clause-quiet
returns-clause-quiet g c =
    let net = c.args.net.now in
    let i = c.args.bank.0 in
    let f = g.S.Spending.spends c.args.spending.now net in
    let before = c.args.payments.now.paid in
    let after = c.raise_row.new in
    let received : c.index.result.now.received ≡ receipts net c.args.payments.now.paid i =
    ap (λ (s : Sums). s.received) c.index.ensures ∙ c.requires.sums.received i c.index.result.now c.requires.bank in
    let given : division_of net i c.spend-units.result ≡ division_of net i (f i (receipts net c.args.payments.now.paid i)) =
    ap (division_of net i) (c.spend-units.ensures ∙ ap (f i) received) in
    OnFalse_from c.raise_row.result (IsQuietBy net f before i) (λ (e : c.raise_row.result ≡ false).
    quiet_where_same net f before c.args.marks.now c.requires.swept i _ after.payments.paid after.marks
    given c.raise_row.ensures.raised
    (OnFalse_at e c.raise_row.ensures.same_if_false))
