-- The third file is not fetched, where the two others were.
use Rattle.std.proofs.Common.{refl, rules}
use Rattle.clear_load.specs.Sources.{source_of}
use Rattle.clear_load.proofs.Fetches.{files_named, stops_at, third_has_files, third_is}
use Rattle.clear_load.proofs.loading.fetch_all.Goals as goal

pub fetch_both-requires : goal.fetch_both-requires
fetch_both-requires g c = third_has_files (source_of c.args.job.now.task) c.args.kind c.requires

pub returns-in_err-third-clause-stopped : goal.returns-in_err-third-clause-stopped
returns-in_err-third-clause-stopped g c =
    let shelf = g.F.Shelf in
    let start = c.args.files.now in
    let middle = c.fetch_both.new.files in
    let job = c.args.job.now in
    let has = third_has_files (source_of job.task) c.args.kind c.requires in
    let named = files_named (source_of job.task) job has in
    let third = third_is (source_of job.task) job c.args.kind c.requires in
    let gives = c.in_ok-banks.ensures.both in
    let stops = stops_at (shelf.files start) (shelf.files middle) (shelf.faults start) (shelf.faults middle)
    (shelf.faults c.fetch_whole.new.files) job c.args.kind job.third c.in_err-third.field-0.0 has
    c.fetch_both.ensures.files c.fetch_both.ensures.faults third.0
    (λ told tells. third.1 told (
      (job.banks, c.in_ok-banks.banks.items, named.0, gives.0 told tells),
      (job.debts, c.in_ok-banks.debts.items, named.1, gives.1 told tells),
    ))
    (λ told f tells is. third.2 told f (rw (gives.0 told tells, gives.1 told tells, is) refl))
    (rw c.as_str.ensures at c.in_err-third.ensures.stopped) in
    search rules
