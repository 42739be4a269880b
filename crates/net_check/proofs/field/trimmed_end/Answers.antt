use Rattle.std.proofs.Common.{sym, ◌∙◌}
use Rattle.net_check.proofs.Fields.{trimmed_end-drops, trimmed_end-stops, trimmed_end-empty}
use Rattle.net_check.proofs.field.trimmed_end.Goals as goal

pub loop-last-preserved : goal.loop-last-preserved
loop-last-preserved c =
    sym (trimmed_end-drops c.loop-last.rest.now c.in-Some.others.now c.in-Some.last.now c.in-Some.ensures.cases.0 (cc)) ∙ c.loop-last.invariant

pub returns-then-not-is_space_or_tab : goal.returns-then-not-is_space_or_tab
returns-then-not-is_space_or_tab c =
    sym (trimmed_end-stops c.loop-last.rest.now c.in-Some.others.now c.in-Some.last.now c.in-Some.ensures.cases.0 (cc)) ∙ c.loop-last.invariant

pub returns-in_default : goal.returns-in_default
returns-in_default c = sym (trimmed_end-empty c.loop-last.rest.now c.in_default.ensures.cases) ∙ c.loop-last.invariant
