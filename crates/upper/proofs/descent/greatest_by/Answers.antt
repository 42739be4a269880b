use Rattle.upper.proofs.Tops.{greatest_by_is}
use Rattle.upper.proofs.descent.greatest_by.Goals as goal

pub returns-clause-greatest : goal.returns-clause-greatest
returns-clause-greatest g c =
    rw c.in_ok-descend_by.ensures.greatest (greatest_by_is c.args.net.now _ c.requires.never_falls)
