use Rattle.std.proofs.Common.{◌∙◌, map, ap, arith}
use Rattle.std.proofs.lemmas.Result.{err_from_is_err_and}
use Rattle.net_check.specs.declared.fault.FileKind.TheVariants as file
use Rattle.net_csv.specs.Left.{records_left, trimmed_left}
use Rattle.net_csv.specs.Reading.{trimmed_fields}
use Rattle.net_csv.proofs.Rows.{few_below}
use Rattle.raise_journal.specs.Texts.{journal_header}
use Rattle.raise_journal.proofs.ReadRows.{raises-below}
use Rattle.raise_journal.proofs.reading.read_rows.Goals as goal

pub add_raises-requires-clause-few : goal.add_raises-requires-clause-few
add_raises-requires-clause-few c =
    let few = few_below file.Journal journal_header c.args.bytes.now
    (records_left c.reader_of-reader.result) (records_left c.read_header.new.reader)
    c.reader_of-reader.ensures.all c.in_ok-read_header.ensures.below in
    omega arith

pub returns-clause-journal : goal.returns-clause-journal
returns-clause-journal c =
    raises-below c.args.by c.args.net.now c.args.bytes.now (trimmed_left c.reader_of-reader.result)
    (trimmed_left c.read_header.new.reader)
    (ap (map trimmed_fields) c.reader_of-reader.ensures.all) c.in_ok-read_header.ensures.below
    ∙ c.in_ok-add_raises.ensures.read

pub returns-in_err-add_raises-clause-refused : goal.returns-in_err-add_raises-clause-refused
returns-in_err-add_raises-clause-refused c = λ f e.
    let p = err_from_is_err_and c.from_residual-in_err-add_raises.result
    c.from_residual-in_err-add_raises.ensures.1 in
    raises-below c.args.by c.args.net.now c.args.bytes.now (trimmed_left c.reader_of-reader.result)
    (trimmed_left c.read_header.new.reader)
    (ap (map trimmed_fields) c.reader_of-reader.ensures.all) c.in_ok-read_header.ensures.below
    ∙ c.in_err-add_raises.ensures.refused f (let told = p.1 in let same = p.2 in cc e)
