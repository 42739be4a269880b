use Rattle.std.proofs.Common.{refl, ◌∙◌}
use Rattle.clear_many.proofs.Tabled.{laid_out}
use Rattle.clear_many.proofs.outcomes.summed_up.Goals as goal

pub returns : goal.returns
returns c =
    rw (c.in_ok-push-3.ensures.items, c.in_ok-push-2.ensures.items, c.in_ok-append.ensures.items)
    (rw (c.in_ok-push.ensures.items, c.in_ok-all.ensures.items)
    (laid_out c.in_ok-outcomes_header.field-0 c.in_ok-vec.field-0 c.in_ok-falls_text.field-0 c.args.lines.items
    ∙ rw (c.in_ok-outcomes_header.ensures, c.in_ok-vec.ensures.items, c.in_ok-falls_text.ensures) refl))
