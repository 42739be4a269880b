use Rattle.std.proofs.Common.{sym, ap}
use Rattle.clear_words.specs.Tasks.{task_named}
use Rattle.clear_words.proofs.task.Task.named.Goals as goal

pub returns-in-check : goal.returns-in-check
returns-in-check c = sym (ap task_named c.in-check.is)

pub returns-in-clear : goal.returns-in-clear
returns-in-clear c = sym (ap task_named c.in-clear.is)

pub returns-in-central : goal.returns-in-central
returns-in-central c = sym (ap task_named c.in-central.is)

pub returns-in-defaults : goal.returns-in-defaults
returns-in-defaults c = sym (ap task_named c.in-defaults.is)

pub returns-in-stress : goal.returns-in-stress
returns-in-stress c = sym (ap task_named c.in-stress.is)

pub returns-in-replay : goal.returns-in-replay
returns-in-replay c = sym (ap task_named c.in-replay.is)

pub returns-in-gen : goal.returns-in-gen
returns-in-gen c = sym (ap task_named c.in-gen.is)

pub returns-in-convert : goal.returns-in-convert
returns-in-convert c = sym (ap task_named c.in-convert.is)

pub returns-in-bounds : goal.returns-in-bounds
returns-in-bounds c = sym (ap task_named c.in-bounds.is)

pub returns-in-rescue : goal.returns-in-rescue
returns-in-rescue c = sym (ap task_named c.in-rescue.is)

pub returns-in-compress : goal.returns-in-compress
returns-in-compress c = sym (ap task_named c.in-compress.is)

pub returns-in-costs : goal.returns-in-costs
returns-in-costs c = sym (ap task_named c.in-costs.is)

pub returns-in-breaking : goal.returns-in-breaking
returns-in-breaking c = sym (ap task_named c.in-breaking.is)

pub returns-in-impact : goal.returns-in-impact
returns-in-impact c = sym (ap task_named c.in-impact.is)

pub returns-in-rescues : goal.returns-in-rescues
returns-in-rescues c = sym (ap task_named c.in-rescues.is)

pub returns-in-outcomes : goal.returns-in-outcomes
returns-in-outcomes c = sym (ap task_named c.in-outcomes.is)

pub returns-in-text : goal.returns-in-text
returns-in-text c = sym (ap task_named c.in-text.is)
