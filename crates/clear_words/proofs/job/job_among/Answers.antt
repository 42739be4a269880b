use Rattle.std.proofs.Common.{false, true, ◌≡◌, ◌∙◌, None, Some, ap, rules, sym}
use Rattle.std.specs.List.{list_all}
use Rattle.std.specs.Prelude.{option_and_then}
use Rattle.clap.specs.Words.{found_of, rows_of}
use Rattle.clear_words.specs.Job.{is_well, job_for}
use Rattle.clear_words.specs.Options.{all_options}
use Rattle.clear_words.proofs.Values.{job_in-by_test}
use Rattle.clear_words.proofs.job.job_among.Goals as goal

pub returns-in_err-task-clause-usage : goal.returns-in_err-task-clause-usage
returns-in_err-task-clause-usage c = λ usage.
    let none : c.task_in.result ≡ None = search rules in
    ap (option_and_then (job_for (rows_of (found_of c.args.matches.now)))) (sym c.task_in.ensures ∙ none)

pub returns-then-not-all_well-clause-usage : goal.returns-then-not-all_well-clause-usage
returns-then-not-all_well-clause-usage c = λ usage.
    let rows = rows_of (found_of c.args.matches.now) in
    let some : c.task_in.result ≡ Some c.in_ok-task.task = search rules in
    job_in-by_test rows c.in_ok-task.task false (sym c.task_in.ensures ∙ some)
    (sym c.if-not-all_well.true ∙ c.all_well.ensures
    ∙ ap (λ uses. list_all (is_well uses rows) all_options) c.uses.ensures)

pub returns-clause-job : goal.returns-clause-job
returns-clause-job c =
    let rows = rows_of (found_of c.args.matches.now) in
    let some : c.task_in.result ≡ Some c.in_ok-task.task = search rules in
    job_in-by_test rows c.in_ok-task.task true (sym c.task_in.ensures ∙ some)
    (sym c.if-not-all_well.false ∙ c.all_well.ensures
    ∙ ap (λ uses. list_all (is_well uses rows) all_options) c.uses.ensures)
    ∙ ap Some (sym c.in_ok-job_from.ensures)
