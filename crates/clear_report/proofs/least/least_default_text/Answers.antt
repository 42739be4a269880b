use Rattle.std.proofs.Common.{◌≡◌, IfOk, length, ◌∙◌, ap, subst}
use Rattle.clear_report.specs.Defaults.{defaults_text}
use Rattle.clear_report.proofs.least.least_default_text.Goals as goal

pub default_text-requires : goal.default_text-requires
default_text-requires c =
    ap length c.as_slice.ensures.value ∙ c.in_ok-standings.ensures.as_many

pub returns : goal.returns
returns c =
    subst (λ all. IfOk c.default_text.result (λ text. text.items ≡ defaults_text c.args.net.now all))
    (c.as_slice.ensures.value ∙ c.in_ok-standings.ensures.standings) c.default_text.ensures
