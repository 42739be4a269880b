use Rattle.std.proofs.Common.{sym, ◌∙◌, arith}
use Rattle.cascade.proofs.CashAt.{cash_read, own_cash}
use Rattle.rescue.specs.Rescue.{rescue}
use Rattle.rescue.proofs.SavedBesides.{added_hurts_nobody}
use Rattle.rescue.proofs.Searching.{as_many_banks}
use Rattle.rescue.proofs.saved.saving_of.Goals as goal

pub set_cash-requires-clause-bank : goal.set_cash-requires-clause-bank
set_cash-requires-clause-bank c =
    let as_many = as_many_banks c.args.before.now.net.now c.args.bank.0 c.saving_at-saving.new.search.more
    c.saving_at-saving.ensures.search.differ in
    omega (arith, c.requires.bank, as_many)

pub set_cash-requires-clause-cash : goal.set_cash-requires-clause-cash
set_cash-requires-clause-cash c =
    omega (
      arith,
      (c.banks.ensures.network.each_bank c.args.bank.0 c.requires.bank).cash_in_limit,
      cash_read c.args.before.now.net.now c.args.bank.0 c.bank.result.now c.bank.ensures,
    )

pub returns-clause-search : goal.returns-clause-search
returns-clause-search c =
    let net = c.args.before.now.net.now in
    let i = c.args.bank.0 in
    let at = c.saving_at-saving.ensures.search in
    let own = sym (cash_read net i c.bank.result.now c.bank.ensures) in
    record {
      copy = c.set_cash.ensures ∙ at.differ c.bank.result.now.cash ∙ own_cash net i _ own;
      for_each_bank = at.for_each_bank;
      room = at.room;
    }

pub returns-clause-nobody_loses : goal.returns-clause-nobody_loses
returns-clause-nobody_loses c =
    added_hurts_nobody c.args.before.now.net.now c.args.bank.0 (rescue c.args.before.now.net.now c.args.bank.0)
    c.banks.ensures.network
