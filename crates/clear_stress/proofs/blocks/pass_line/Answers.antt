-- The beginning of the line, and what is paid.
use Rattle.std.proofs.Common.{[], ◌∷◌, ap, ◌∙◌}
use Rattle.std.specs.Fmt.{decimal}
use Rattle.clr_net.specs.Lines.{line}
use Rattle.clear_stress.proofs.blocks.pass_line.Goals as goal

pub returns : goal.returns
returns g c =
    rw (← c.bytes.ensures ∙ c.begin.ensures.line ∙ ap (λ n. line (decimal n ∷ [])) c.from.ensures) c.pass_both.ensures
