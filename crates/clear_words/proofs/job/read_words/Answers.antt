use Rattle.std.proofs.Common.{◌∙◌, rules}
use Rattle.clap.specs.Words.{found_of, rows_of}
use Rattle.clear_words.specs.Job.{the_words}
use Rattle.clear_words.proofs.Values.{job_of-refused, job_of-taken}
use Rattle.clear_words.proofs.WithinLimits.{asked_is_job}
use Rattle.clear_words.proofs.job.read_words.Goals as goal

pub returns-in_err-matches-clause-usage : goal.returns-in_err-matches-clause-usage
returns-in_err-matches-clause-usage c = λ usage.
    job_of-refused (the_words c.args.words.now) (c.in_err-matches.ensures.refused (search rules))

pub returns-in_err-job_among-clause-usage : goal.returns-in_err-job_among-clause-usage
returns-in_err-job_among-clause-usage c = λ usage.
    job_of-taken (the_words c.args.words.now) (rows_of (found_of c.in_ok-matches.matches))
    c.in_ok-matches.ensures.taken c.in_ok-matches.ensures.rows
    ∙ c.in_err-job_among.ensures.usage (search rules)

pub returns-clause-job : goal.returns-clause-job
returns-clause-job c =
    job_of-taken (the_words c.args.words.now) (rows_of (found_of c.in_ok-matches.matches))
    c.in_ok-matches.ensures.taken c.in_ok-matches.ensures.rows
    ∙ c.in_ok-job_among.ensures.job

pub returns-clause-limits : goal.returns-clause-limits
returns-clause-limits c = asked_is_job (the_words c.args.words.now) c.in_ok-job_among.field-0
    (returns-clause-job c)
