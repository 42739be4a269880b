use Rattle.csv.specs.Records.{fields_of}
use Rattle.net_csv.proofs.Left.{found_is_first, none_is_left}
use Rattle.net_csv.proofs.records.read_next.Goals as goal

pub returns-in-Ok-clause-reading : goal.returns-in-Ok-clause-reading
returns-in-Ok-clause-reading c =
    let said = c.in-Ok.ensures in
    λ e. (found_is_first c.args.reader.now c.read_byte_record.new.self _ (fields_of c.read_byte_record.new.row) c.requires
    (said.reads c.requires.untrimmed c.requires.ready) (said.ready c.requires.untrimmed) said.flexible e).0

pub returns-in-Ok-clause-next : goal.returns-in-Ok-clause-next
returns-in-Ok-clause-next c =
    let said = c.in-Ok.ensures in
    λ e. (found_is_first c.args.reader.now c.read_byte_record.new.self _ (fields_of c.read_byte_record.new.row) c.requires
    (said.reads c.requires.untrimmed c.requires.ready) (said.ready c.requires.untrimmed) said.flexible e).1

pub returns-in-Ok-clause-end : goal.returns-in-Ok-clause-end
returns-in-Ok-clause-end c =
    let said = c.in-Ok.ensures in
    λ e. none_is_left c.args.reader.now c.read_byte_record.new.self _ (fields_of c.read_byte_record.new.row) c.requires
    (said.reads c.requires.untrimmed c.requires.ready) e
