use Rattle.std.proofs.Common.{arith}
use Rattle.net_check.specs.declared.fault.FileKind.TheVariants as file
use Rattle.net_csv.specs.Left.{records_left, trimmed_left}
use Rattle.net_csv.specs.Reading.{banks_header, version_of}
use Rattle.net_csv.proofs.Rows.{few_below}
use Rattle.net_csv.proofs.file.add_banks.Goals as goal

pub add_rows-requires-clause-few : goal.add_rows-requires-clause-few
add_rows-requires-clause-few c =
    let few = few_below file.Banks (banks_header (version_of (trimmed_left c.reader_of-reader.result))) c.args.text.now (records_left c.reader_of-reader.result)
    (records_left c.read_version.new.reader) c.reader_of-reader.ensures.all c.in_ok-version.ensures.below in
    omega arith
