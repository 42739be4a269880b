-- What holds of each job, whatever the words: its numbers are within their limits.
use Rattle.std.specs.Prelude.{◌≡◌, ◌≤◌}
use Rattle.clear_words.specs.declared.job.Job.{Job}
use Rattle.clear_words.specs.declared.task.Task.TheVariants as task

-- the numbers of a job are within their limits, and a network that is to be generated has a bank
pub record IsJob (job : Job) : Type 0 where
  pub least_workers : 1 ≤ job.workers
  pub most_workers : job.workers ≤ 64
  pub least_sweeps : 1 ≤ job.sweeps
  pub most_sweeps : job.sweeps ≤ 1000
  pub least_size : job.task ≡ task.Gen → 1 ≤ job.size
  pub most_size : job.size ≤ 1000
  pub most_tries : job.tries ≤ 20000
  pub most_keep : job.keep ≤ 1000
