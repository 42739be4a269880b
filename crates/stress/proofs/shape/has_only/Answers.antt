use Rattle.std.proofs.Common.{◌∙◌, map, string_bytes, sym, rules, tests}
use Rattle.std.specs.List.{list_any}
use Rattle.std.specs.Map.{keys_of}
use Rattle.std.specs.Str.{bytes_eq}
use Rattle.std.proofs.lemmas.Iterator.Consumers.{YieldsList-from_rest}
use Rattle.std.proofs.lemmas.Iterator.Search.{all_from_yields_List}
use Rattle.stress.proofs.Found.{has_only-keys}
use Rattle.stress.proofs.shape.has_only.Goals as goal

pub returns : goal.returns
returns c =
    let words = map (λ w. w.now) c.args.words.now in
    let entries = c.args.table.now.entries in
    let keys = YieldsList-from_rest (keys_of entries) c.keys.ensures.rest in
    all_from_yields_List (λ key. list_any (λ word. bytes_eq word (string_bytes key)) words)
    _ _ c.all.result c.all.ensures.ran keys (λ x b q k. search (rules, tests))
    ∙ sym (has_only-keys words entries)
