use Rattle.csv.specs.Records.{fields_of}
use Rattle.net_csv.proofs.Turns.{field_is_there}
use Rattle.net_csv.proofs.records.field.Goals as goal

pub unwrap-requires : goal.unwrap-requires
unwrap-requires c =
    field_is_there (fields_of c.args.fields.now) c.args.place c.get.result c.requires c.get.ensures.value
