use Rattle.cascade.proofs.Limits.{clearing_over, clearing_in_limit}
use Rattle.rescue.proofs.search.lacks.Goals as goal

pub estate_of-estate-requires-clause-over : goal.estate_of-estate-requires-clause-over
estate_of-estate-requires-clause-over c = clearing_over c.args.net.now c.args.paid.now c.requires.clears

pub estate_of-estate-requires-clause-paid_in_limit : goal.estate_of-estate-requires-clause-paid_in_limit
estate_of-estate-requires-clause-paid_in_limit c =
    clearing_in_limit c.args.net.now c.args.paid.now c.banks.ensures.network c.requires.clears
