-- What was loaded, and what the one task that works on it comes to.
use Rattle.std.proofs.Common.{◌≡◌, List, Option, Some, Ok, sym, ap, subst}
use Rattle.clr_net.specs.Net.{Net}
use Rattle.clear_core.specs.declared.event.Raise.{Raise}
use Rattle.clear_load.proofs.Tasks.{replay_by, rescue_by}
use Rattle.clear_load.specs.Loading.{Gives}
use Rattle.clear_load.specs.Reading.{Files, Input, Read, alone, reading_by}
use Rattle.clear_load.specs.Sources.{source_of}
use Rattle.clear_load.specs.declared.source.Source.{Source}
use Rattle.clear_load.specs.declared.source.Source.TheVariants as source
use Rattle.clear_words.specs.declared.job.Job.{Job}
use Rattle.clear_words.specs.declared.task.Task.{Task}
use Rattle.clear_words.specs.declared.task.Task.TheVariants as task
use Rattle.net_gen.specs.Generated.{generated}
use Rattle.raise_journal.specs.Verdicts.{judged}
use Rattle.clear_top.specs.Meaning.{ComesTo, answer_to}
use Rattle.clear_top.specs.Outcome.{Outcome}
use Rattle.clear_top.proofs.work.work.Goals as goal

-- a network that was made is what its job reads, from whatever files
gives_made : (files : Option Files) (job : Job) (net : Net) → source.Generated ≡ source_of job.task
    → net ≡ generated job.seed job.size job.tries → Gives files job (Ok (alone net))
gives_made files job net is made told tells =
    let read : Net → Read Input = λ n. Some (Ok (alone n)) in
    subst (λ (s : Source). reading_by s told job ≡ read net) is (ap read (sym made))

pub returns-in_ok-judge-in-FilesAndJournal-clause-works : goal.returns-in_ok-judge-in-FilesAndJournal-clause-works
returns-in_ok-judge-in-FilesAndJournal-clause-works g c =
    let read = c.in_ok-net-in-FilesAndJournal in
    let on : Input = record (alone read.net) { journal = read.journal.raises } in
    let o = c.in_ok-judge-in-FilesAndJournal.field-0 in
    let replays = replay_by c.args.job.now.task (sym c.in-FilesAndJournal.ensures) in
    let told = subst (λ (rs : List Raise). o ≡ answer_to read.net rs (judged read.net rs).verdict)
    c.as_slice-in-FilesAndJournal.ensures c.in_ok-judge-in-FilesAndJournal.ensures in
    (on, read.ensures.input, subst (λ (t : Task). ComesTo t c.args.job.now on o) (sym replays) told)

pub returns-in_ok-save-in-FilesAndBank-clause-works : goal.returns-in_ok-save-in-FilesAndBank-clause-works
returns-in_ok-save-in-FilesAndBank-clause-works g c =
    let read = c.in_ok-net-in-FilesAndBank in
    let on : Input = record (alone read.net) { bank = read.bank.0 } in
    let o = c.in_ok-save-in-FilesAndBank.field-0 in
    let saves = rescue_by c.args.job.now.task (sym c.in-FilesAndBank.ensures) in
    let told = c.in_ok-save-in-FilesAndBank.ensures in
    (on, read.ensures.input, subst (λ (t : Task). ComesTo t c.args.job.now on o) (sym saves) told)

pub returns-in_ok-work_on_network-in-Generated-clause-works : goal.returns-in_ok-work_on_network-in-Generated-clause-works
returns-in_ok-work_on_network-in-Generated-clause-works g c =
    let read = c.in_ok-net-in-Generated in (
      alone read.net,
      gives_made (g.F.Shelf.files c.args.files.now) c.args.job.now read.net c.in-Generated.ensures read.ensures.input,
      c.in_ok-work_on_network-in-Generated.ensures,
    )
