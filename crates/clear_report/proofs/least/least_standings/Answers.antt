use Rattle.std.proofs.Common.{◌≡◌, length, ap, ◌∙◌}
use Rattle.std.proofs.lemmas.List.FromFn.{length-map-range_with_len}
use Rattle.std.proofs.lemmas.Result.{IfOk-weaker}
use Rattle.cascade.specs.Standings.{standing, standings}
use Rattle.clear_core.proofs.Least.{least_clears}
use Rattle.clear_report.proofs.least.least_standings.Goals as goal

pub defaults-requires : goal.defaults-requires
defaults-requires c = rw c.requires (least_clears c.args.net.now)

pub returns-clause-as_many : goal.returns-clause-as_many
returns-clause-as_many c =
    let net = c.args.net.now in
    let paid = c.args.paid.now in
    IfOk-weaker c.defaults.result (λ all. all.items ≡ standings net paid) (λ all. length all.items ≡ length net.banks)
    (λ all is. ap length is ∙ length-map-range_with_len (standing net paid) 0 (length net.banks)) c.defaults.ensures.standings
