-- What the work came to was written, whole or in part.
use Rattle.std.proofs.Common.{◌≡◌, ap, ◌∙◌, subst}
use Rattle.clear_top.specs.Ending.{WritesNothing}
use Rattle.clear_top.specs.Outcome.{Outcome}
use Rattle.clear_top.specs.declared.status.Ended.{Ended}
use Rattle.clear_top.proofs.Writing.{ends_whole, work_writes}
use Rattle.clear_top.proofs.top.carry_out.Goals as goal
use Rattle.clear_top.proofs.top.carry_out.Given.{Over}
use Rattle.clear_top.proofs.top.carry_out.Goals.{After-drop-room}

-- the status and the record are those of the outcome
ended : (g : Over) (c : After-drop-room g) → c.end.result
    ≡ record { status = c.in-Ok.outcome.status; sealed = c.in-Ok.outcome.sealed }
ended g c =
    let with_record : Outcome → Ended = λ o. record { status = o.status; sealed = c.in-Ok.outcome.sealed } in
    c.end.ensures ∙ ap with_record c.outcome.view_is

pub returns-in-Ok-put-clause-ends : goal.returns-in-Ok-put-clause-ends
returns-in-Ok-put-clause-ends g c =
    let outcome = c.in-Ok.outcome in
    let works = c.in-Ok.ensures.works in
    rw (ended g c)
    (ends_whole c.args.job.now works.0 _ _ works.1 outcome.status outcome.sealed outcome.text works.2 c.in-Ok-put.ensures.written)

pub returns-clause-ends : goal.returns-clause-ends
returns-clause-ends g c =
    let outcome = c.in-Ok.outcome in
    rw c.end-in-Err-put.ensures
    (outcome.status, outcome.text, c.in-Ok.ensures.works, c.in-Err-put.ensures.part)

-- what was to be written is a status of work
pub returns-in-Ok-put-clause-untouched : goal.returns-in-Ok-put-clause-untouched
returns-in-Ok-put-clause-untouched g c = λ nothing.
    let outcome = c.in-Ok.outcome in
    let works = c.in-Ok.ensures.works in
    absurd (work_writes c.args.job.now works.0 outcome.status outcome.sealed outcome.text works.2
    (subst (λ (e : Ended). WritesNothing e.status) (ended g c) nothing))

pub returns-clause-untouched : goal.returns-clause-untouched
returns-clause-untouched g c = λ nothing.
    absurd (subst (λ (e : Ended). WritesNothing e.status) c.end-in-Err-put.ensures nothing)

pub returns-in-Ok-put-clause-no_fault : goal.returns-in-Ok-put-clause-no_fault
returns-in-Ok-put-clause-no_fault g c = λ alone other. c.in-Ok-put.ensures.well alone

pub returns-clause-no_fault : goal.returns-clause-no_fault
returns-clause-no_fault g c = λ alone other.
    absurd (other (ap (λ (e : Ended). e.status) c.end-in-Err-put.ensures))
