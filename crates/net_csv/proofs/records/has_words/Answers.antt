use Rattle.std.proofs.Common.{◌∙◌, ap, sym, rules, tests}
use Rattle.std.specs.Str.{bytes_eq}
use Rattle.std.proofs.lemmas.Iterator.{YieldsList-from_zip, YieldsList-from_slice}
use Rattle.std.proofs.lemmas.Iterator.Search.{all_from_yields_List}
use Rattle.csv.specs.Records.{fields_of}
use Rattle.net_check.specs.Field.{trimmed_field}
use Rattle.net_csv.proofs.Turns.{all_in_turn, pairs-pointwise}
use Rattle.net_csv.proofs.records.has_words.Goals as goal

pub returns-then-len-words : goal.returns-then-len-words
returns-then-len-words c =
    let fields = fields_of c.args.fields.now in
    let same = c.zip.ensures.first in
    all_from_yields_List (λ p. bytes_eq p.1.now (trimmed_field p.0)) c.all.new.self _ c.all.result c.all.ensures.ran
    (YieldsList-from_zip (all_in_turn c.zip.result.a fields (rw same (ap fields_of c.iter.ensures.row)) (rw same c.iter.ensures.at))
    (YieldsList-from_slice c.args.words.now (let second = c.zip.ensures.second in cc))) (λ x b q k. search (rules, tests))
    ∙ pairs-pointwise bytes_eq trimmed_field (λ w. w.now) c.args.words.now fields (sym c.len.ensures ∙ c.if-len-words.true)
