use Rattle.cascade.proofs.Healths.{fundamental_below, below_fundamental}
use Rattle.cascade.proofs.Limits.{estate_le_worth}
use Rattle.cascade.proofs.PayingOut.{paid_is}
use Rattle.cascade.proofs.laws.fundamental_where_claims_do_not_cover_all.Goals as goal

pub returns : goal.returns
returns c net P network clears i =
    let pays = paid_is net P network clears i in
    (fundamental_below net P i pays, below_fundamental net P i pays (estate_le_worth net P clears i))
