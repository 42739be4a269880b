use Rattle.std.proofs.Common.{◌∙◌}
use Rattle.clr_net.specs.Net.{has_name}
use Rattle.net_check.proofs.FirstPlace.{is_some-position}
use Rattle.net_check.proofs.bank.is_taken.Goals as goal

pub returns : goal.returns
returns c =
    c.is_some.ensures
    ∙ is_some-position (λ id. id.0) (has_name c.args.name.now) c.args.net.now.banks c.bank_named.result c.bank_named.ensures.place
