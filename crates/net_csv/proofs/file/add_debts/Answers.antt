use Rattle.std.proofs.Common.{arith}
use Rattle.net_check.specs.declared.fault.FileKind.TheVariants as file
use Rattle.net_csv.specs.Left.{records_left}
use Rattle.net_csv.specs.Reading.{debts_header}
use Rattle.net_csv.proofs.Rows.{few_below}
use Rattle.net_csv.proofs.file.add_debts.Goals as goal

pub add_rows-requires-clause-few : goal.add_rows-requires-clause-few
add_rows-requires-clause-few c =
    let few = few_below file.Debts debts_header c.args.text.now (records_left c.reader_of-reader.result)
    (records_left c.read_header.new.reader) c.reader_of-reader.ensures.all (rw c.header-words.ensures at c.in_ok-read_header.ensures.below) in
    omega arith
