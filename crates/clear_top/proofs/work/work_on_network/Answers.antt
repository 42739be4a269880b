-- A task on a network alone that is none of those told apart clears on one board.
use Rattle.std.proofs.Common.{◌≡◌, ◌≢◌, ◌⊎◌, IfOk, Result, [], inl, inr, refl, sym, subst}
use Rattle.clr_net.specs.Net.{Net}
use Rattle.clear_load.specs.Reading.{alone}
use Rattle.clear_load.specs.Sources.{source_of}
use Rattle.clear_load.specs.declared.source.Source.TheVariants as source
use Rattle.clear_words.specs.declared.job.Job.{Job}
use Rattle.clear_words.specs.declared.task.Task.{Task}
use Rattle.clear_words.specs.declared.task.Task.TheVariants as task
use Rattle.clear_top.specs.Meaning.{ComesTo, Settles, plan_of, shown_of}
use Rattle.clear_top.specs.Outcome.{Outcome}
use Rattle.pay_words.proofs.Pasts.{belongs_at_first}
use Rattle.settle.specs.Runs.{IsSettled}
use Rattle.clear_top.proofs.work.work_on_network.Goals as goal

by_settling : {E : Type 0} (job : Job) (net : Net) (r : Result Outcome E) (t : Task) → (source_of t ≡ source.Files) ⊎ (source_of t ≡ source.Generated)
    → t ≢ task.Check → t ≢ task.Central → t ≢ task.Convert → t ≢ task.Compress → t ≢ task.Costs → t ≢ task.CostBounds
    → t ≢ task.Breaking → t ≢ task.Impact → t ≢ task.Rescues
    → IfOk r (Settles net (plan_of job) (shown_of t job.show net)) → IfOk r (ComesTo t job (alone net))
by_settling job net r task.Clear is n₁ n₂ n₃ n₄ n₅ n₆ n₇ n₈ n₉ told = told
by_settling job net r task.Defaults is n₁ n₂ n₃ n₄ n₅ n₆ n₇ n₈ n₉ told = told
by_settling job net r task.Bounds is n₁ n₂ n₃ n₄ n₅ n₆ n₇ n₈ n₉ told = told
by_settling job net r task.Gen is n₁ n₂ n₃ n₄ n₅ n₆ n₇ n₈ n₉ told = told
by_settling job net r task.Check is n₁ n₂ n₃ n₄ n₅ n₆ n₇ n₈ n₉ told = absurd (n₁ refl)
by_settling job net r task.Central is n₁ n₂ n₃ n₄ n₅ n₆ n₇ n₈ n₉ told = absurd (n₂ refl)
by_settling job net r task.Convert is n₁ n₂ n₃ n₄ n₅ n₆ n₇ n₈ n₉ told = absurd (n₃ refl)
by_settling job net r task.Compress is n₁ n₂ n₃ n₄ n₅ n₆ n₇ n₈ n₉ told = absurd (n₄ refl)
by_settling job net r task.Costs is n₁ n₂ n₃ n₄ n₅ n₆ n₇ n₈ n₉ told = absurd (n₅ refl)
by_settling job net r task.CostBounds is n₁ n₂ n₃ n₄ n₅ n₆ n₇ n₈ n₉ told = absurd (n₆ refl)
by_settling job net r task.Breaking is n₁ n₂ n₃ n₄ n₅ n₆ n₇ n₈ n₉ told = absurd (n₇ refl)
by_settling job net r task.Impact is n₁ n₂ n₃ n₄ n₅ n₆ n₇ n₈ n₉ told = absurd (n₈ refl)
by_settling job net r task.Rescues is n₁ n₂ n₃ n₄ n₅ n₆ n₇ n₈ n₉ told = absurd (n₉ refl)
by_settling job net r t (inl is) n₁ n₂ n₃ n₄ n₅ n₆ n₇ n₈ n₉ told = absurd (cc)
by_settling job net r t (inr is) n₁ n₂ n₃ n₄ n₅ n₆ n₇ n₈ n₉ told = absurd (cc)

pub settle_owned-requires-clause-past : goal.settle_owned-requires-clause-past
settle_owned-requires-clause-past g c κs lives = belongs_at_first c.args.net _ refl

pub outcome_of-requires : goal.outcome_of-requires
outcome_of-requires g c =
    let settled = c.in_ok-settled-in_default.ensures.settled in
    subst (λ (n : Net). IsSettled n [] c.args.engine.now.plan c.in_ok-settled-in_default.settled) (sym settled.record_is.net_is) settled

pub returns-in_ok-settled-in_default : goal.returns-in_ok-settled-in_default
returns-in_ok-settled-in_default g c =
    let job = c.args.job.now in
    let other = c.in_default in
    let told = subst (λ (n : Net). IfOk c.outcome_of.result (Settles n c.args.engine.now.plan (shown_of job.task job.show n))) c.in_ok-settled-in_default.ensures.settled.record_is.net_is c.outcome_of.ensures in
    by_settling job c.args.net c.outcome_of.result job.task c.requires.alone other.not-Check other.not-Central
    other.not-Convert other.not-Compress other.not-Costs other.not-CostBounds other.not-Breaking other.not-Impact other.not-Rescues
    (rw c.requires.plan at told)
