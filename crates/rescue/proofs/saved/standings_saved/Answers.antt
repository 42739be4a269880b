use Rattle.std.proofs.Common.{◌≡◌, ℕ, ap, ◌∙◌, arith}
use Rattle.std.proofs.lemmas.Result.{IfOk-weaker}
use Rattle.clear_core.specs.Clearing.{least}
use Rattle.clear_core.proofs.Least.{least_clears}
use Rattle.cascade.specs.Standings.{standings}
use Rattle.cascade.proofs.CashAt.{cash_read}
use Rattle.rescue.specs.Rescue.{added}
use Rattle.rescue.specs.Saved.{rescued}
use Rattle.rescue.proofs.Searching.{as_many_banks, set_to_sum, still_differ, sums_added}
use Rattle.rescue.proofs.saved.standings_saved.Goals as goal
use Rattle.rescue.proofs.saved.standings_saved.Goals.{After-set_cash}

-- with the sum that was found the copy is the network of the definition
is_added : (c : After-set_cash) → c.set_cash.new.self
    ≡ added c.args.net.now c.args.bank.0 c.args.found.now.sum.added
is_added c =
    set_to_sum c.args.net.now c.args.bank.0 c.requires.network c.bank.result.now c.bank.ensures
    c.requires.bank c.args.search.now.more c.set_cash.new.self c.args.found.now.sum.added
    c.requires.search.differ c.set_cash.ensures

pub set_cash-requires-clause-bank : goal.set_cash-requires-clause-bank
set_cash-requires-clause-bank c =
    let as_many = as_many_banks c.args.net.now c.args.bank.0 c.args.search.now.more
    c.requires.search.differ in
    omega (arith, c.requires.bank, as_many)

pub set_cash-requires-clause-cash : goal.set_cash-requires-clause-cash
set_cash-requires-clause-cash c =
    omega (
      arith,
      c.requires.fits,
      cash_read c.args.net.now c.args.bank.0 c.bank.result.now c.bank.ensures,
    )

pub defaults_by-requires-clause-clears : goal.defaults_by-requires-clause-clears
defaults_by-requires-clause-clears c =
    let set = is_added (goal.at.defaults_by-requires-clause-clears c).After-set_cash in
    rw (set, c.requires.paid)
    (least_clears (added c.args.net.now c.args.bank.0 c.args.found.now.sum.added))

pub defaults_by-requires-clause-sums : goal.defaults_by-requires-clause-sums
defaults_by-requires-clause-sums c =
    let set = is_added (goal.at.defaults_by-requires-clause-sums c).After-set_cash in
    let found = c.args.found.now in
    rw set (sums_added c.args.net.now c.args.bank.0 found.sum.added found.payments.paid found.payments.sums.items c.requires.sums)

pub returns-clause-search : goal.returns-clause-search
returns-clause-search c = record {
  differ = still_differ c.args.net.now c.args.bank.0 c.args.search.now.more c.set_cash.new.self _
      c.requires.search.differ c.set_cash.ensures;
  for_each_bank = c.requires.search.for_each_bank;
  room = c.requires.search.room;
}

pub returns-clause-all : goal.returns-clause-all
returns-clause-all c =
    let net = c.args.net.now in
    let i = c.args.bank.0 in
    let at = goal.at.returns-clause-all c in
    let sum = c.requires.added in
    let set : c.set_cash.new.self ≡ rescued net i = is_added at.After-set_cash ∙ ap (added net i) sum in
    let paid : c.args.found.now.payments.paid ≡ least (rescued net i) =
    c.requires.paid ∙ ap (λ (a : ℕ). least (added net i a)) sum in
    IfOk-weaker c.defaults_by.result _ _ (λ all e. e ∙ (λ k. standings (set k) (paid k)))
    c.defaults_by.ensures
