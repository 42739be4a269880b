use Rattle.std.proofs.Common.{◌==◌, ◌∙◌, length, ap, sym, rules, tests}
use Rattle.std.proofs.lemmas.Iterator.Search.{all_from_yields_List}
use Rattle.std.proofs.lemmas.List.Folds.{list_all-map}
use Rattle.csv.specs.Records.{fields_of}
use Rattle.net_check.specs.Field.{trimmed_field}
use Rattle.net_csv.proofs.Turns.{all_in_turn}
use Rattle.net_csv.proofs.records.is_blank.Goals as goal

pub returns : goal.returns
returns c =
    let fields = fields_of c.args.fields.now in
    all_from_yields_List (λ field. length (trimmed_field field) == 0) _ _ c.all.result c.all.ensures.ran
    (all_in_turn c.iter.result fields (ap fields_of c.iter.ensures.row) c.iter.ensures.at) (λ x b q k. search (rules, tests))
    ∙ sym (list_all-map (λ field. length field == 0) trimmed_field fields)
