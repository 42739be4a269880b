use Rattle.std.proofs.Common.{ap, arith}
use Rattle.clr_net.specs.Net.{with_cash}
use Rattle.rescue.proofs.Searching.{fits, found_is, paid_found, search_ends, short_found}
use Rattle.rescue.proofs.search.Search.found.Goals as goal

pub begun-requires-clause-search : goal.begun-requires-clause-search
begun-requires-clause-search c = record {
  differ = λ d. ap (λ n. with_cash n c.args.bank.0 d) c.requires.search.copy;
  for_each_bank = c.requires.search.for_each_bank;
  room = c.requires.search.room;
}

pub returns-clause-added : goal.returns-clause-added
returns-clause-added c =
    found_is c.args.net.now c.args.bank.0 c.banks.ensures.network c.loop-range.range
    c.loop-range.invariant.range (omega arith) c.requires.bank

pub returns-clause-rescue : goal.returns-clause-rescue
returns-clause-rescue c =
    search_ends c.args.net.now c.args.bank.0 c.banks.ensures.network c.loop-range.range
    c.loop-range.invariant.range (omega arith)

pub returns-clause-fits : goal.returns-clause-fits
returns-clause-fits c =
    let range = c.loop-range.invariant.range in
    fits c.args.net.now c.args.bank.0 c.loop-range.range.low c.banks.ensures.network c.requires.bank
    (omega (arith, range.within, range.order))

pub returns-clause-short : goal.returns-clause-short
returns-clause-short c = c.loop-range.invariant.range.short

pub returns-clause-lacking : goal.returns-clause-lacking
returns-clause-lacking c =
    short_found c.args.net.now c.args.bank.0 c.banks.ensures.network c.loop-range.range
    c.loop-range.invariant.range (omega arith)

pub returns-clause-paid : goal.returns-clause-paid
returns-clause-paid c =
    paid_found c.args.net.now c.args.bank.0 c.banks.ensures.network c.loop-range.range
    c.loop-range.invariant.range (omega arith)

pub returns-clause-sums : goal.returns-clause-sums
returns-clause-sums c = c.loop-range.invariant.range.enough_sums
