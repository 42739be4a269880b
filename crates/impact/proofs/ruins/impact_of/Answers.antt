use Rattle.std.proofs.Common.{sym, ◌∙◌, ap}
use Rattle.clr_net.specs.Net.{Net}
use Rattle.clear_core.specs.Clearing.{least}
use Rattle.cascade.specs.Standings.{standings}
use Rattle.cascade.proofs.CashAt.{cash_read, own_cash}
use Rattle.cascade.proofs.Ruin.{costs_its_cash}
use Rattle.impact.proofs.Ruined.{one_ruined, shares_have_floors}
use Rattle.impact.proofs.ruins.impact_of.Goals as goal

pub standings_at-requires-clause-floors : goal.standings_at-requires-clause-floors
standings_at-requires-clause-floors c = shares_have_floors c.args.net.now

pub invariant_of-ruin-2-clause-stands : goal.invariant_of-ruin-2-clause-stands
invariant_of-ruin-2-clause-stands c =
    c.as_slice.ensures.value
    ∙ c.in_ok-after.ensures.all
    ∙ ap (λ (n : Net). standings n (least n)) (sym (one_ruined c.args.net.now c.args.bank.0 c.requires.bank))

pub returns-in_err-after-clause-costs : goal.returns-in_err-after-clause-costs
returns-in_err-after-clause-costs c =
    costs_its_cash c.args.net.now c.args.bank.0 c.banks.ensures.network c.requires.bank

pub returns-clause-costs : goal.returns-clause-costs
returns-clause-costs c =
    costs_its_cash c.args.net.now c.args.bank.0 c.banks.ensures.network c.requires.bank

pub returns-then-bank-eq0-clause-costs : goal.returns-then-bank-eq0-clause-costs
returns-then-bank-eq0-clause-costs c =
    costs_its_cash c.args.net.now c.args.bank.0 c.banks.ensures.network c.requires.bank

pub invariant_of-ruin-clause-stands : goal.invariant_of-ruin-clause-stands
invariant_of-ruin-clause-stands c =
    let none = cash_read c.args.net.now c.args.bank.0 c.bank.result.now c.bank.ensures ∙ c.if-bank-eq0.true in
    c.requires.before
    ∙ ap (λ (n : Net). standings n (least n)) (sym (own_cash c.args.net.now c.args.bank.0 0 (sym none)))
