use Rattle.std.proofs.Common.{sym, ◌∙◌}
use Rattle.net_check.proofs.Fields.{trimmed_start-drops, trimmed_start-stops, trimmed_start-empty}
use Rattle.net_check.proofs.field.trimmed_start.Goals as goal

pub loop-first-preserved : goal.loop-first-preserved
loop-first-preserved c =
    sym (trimmed_start-drops c.loop-first.rest.now c.in-Some.others.now c.in-Some.first.now c.in-Some.ensures.cases.0 (cc)) ∙ c.loop-first.invariant

pub returns-then-not-is_space_or_tab : goal.returns-then-not-is_space_or_tab
returns-then-not-is_space_or_tab c =
    sym (trimmed_start-stops c.loop-first.rest.now c.in-Some.others.now c.in-Some.first.now c.in-Some.ensures.cases.0 (cc)) ∙ c.loop-first.invariant

pub returns-in_default : goal.returns-in_default
returns-in_default c = sym (trimmed_start-empty c.loop-first.rest.now c.in_default.ensures.cases) ∙ c.loop-first.invariant
