use Rattle.std.proofs.Common.{◌∙◌, [], ◌∷◌, sym}
use Rattle.csv.specs.Records.{fields_of}
use Rattle.net_csv.proofs.Turns.{fields_are}
use Rattle.net_csv.proofs.records.three_fields.Goals as goal

pub returns : goal.returns
returns c = fields_are (fields_of c.args.fields.now) (_ ∷ _ ∷ _ ∷ []) (sym c.len.ensures ∙ c.if-len-ne3.false)
    (c.field.ensures, (c.field-2.ensures, (c.field-3.ensures, tt)))
