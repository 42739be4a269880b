-- The banks file or the debts file is not fetched.
use Rattle.std.proofs.Common.{refl, rules, arith}
use Rattle.net_check.specs.declared.fault.FileKind.TheVariants as file
use Rattle.clear_load.specs.Sources.{source_of}
use Rattle.clear_load.proofs.Fetches.{fault_of_both, files_named, stops_at}
use Rattle.clear_load.proofs.loading.fetch_both.Goals as goal

pub returns-in_err-banks-clause-stopped : goal.returns-in_err-banks-clause-stopped
returns-in_err-banks-clause-stopped g c =
    let shelf = g.F.Shelf in
    let start = c.args.files.now in
    let job = c.args.job.now in
    let stops = stops_at (shelf.files start) (shelf.files start) (shelf.faults start) (shelf.faults start)
    (shelf.faults c.fetch_whole.new.files) job file.Banks job.banks c.in_err-banks.field-0.0 c.requires refl
    (λ name. omega arith) (files_named (source_of job.task) job c.requires).0 (λ told tells. tt)
    (λ told f tells is. fault_of_both (source_of job.task) told job f c.requires (rw is refl))
    (rw c.as_str.ensures at c.in_err-banks.ensures.stopped) in
    search rules

pub returns-in_err-debts-clause-stopped : goal.returns-in_err-debts-clause-stopped
returns-in_err-debts-clause-stopped g c =
    let shelf = g.F.Shelf in
    let start = c.args.files.now in
    let middle = c.fetch_whole.new.files in
    let job = c.args.job.now in
    let named = files_named (source_of job.task) job c.requires in
    let given = rw c.as_str.ensures at c.in_ok-banks.ensures.file in
    let stops = stops_at (shelf.files start) (shelf.files middle) (shelf.faults start) (shelf.faults middle)
    (shelf.faults c.fetch_whole-2.new.files) job file.Debts job.debts c.in_err-debts.field-0.0 c.requires
    c.fetch_whole.ensures.files c.fetch_whole.ensures.faults named.1
    (λ told tells. (job.banks, c.in_ok-banks.banks.items, named.0, given told tells))
    (λ told f tells is. fault_of_both (source_of job.task) told job f c.requires (rw (given told tells, is) refl))
    (rw c.as_str-2.ensures at c.in_err-debts.ensures.stopped) in
    search rules
