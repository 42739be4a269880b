-- A network is made for the task gen alone, and so of at least one bank.
use Rattle.clear_load.proofs.Tasks.{gen_by}
use Rattle.clear_load.proofs.loading.load_generated.Goals as goal

pub generate-requires-clause-some_banks : goal.generate-requires-clause-some_banks
generate-requires-clause-some_banks c =
    c.requires.job.least_size (gen_by c.args.job.now.task c.requires.generated)
