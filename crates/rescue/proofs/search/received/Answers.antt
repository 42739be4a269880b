use Rattle.cascade.proofs.Limits.{clearing_over, clearing_in_limit}
use Rattle.rescue.proofs.search.received.Goals as goal

pub receipts_of-requires-clause-over : goal.receipts_of-requires-clause-over
receipts_of-requires-clause-over c = clearing_over c.args.net.now c.args.paid.now c.requires.clears

pub receipts_of-requires-clause-paid_in_limit : goal.receipts_of-requires-clause-paid_in_limit
receipts_of-requires-clause-paid_in_limit c =
    clearing_in_limit c.args.net.now c.args.paid.now c.banks.ensures.network c.requires.clears
