-- The chain gives the bytes of each argument after the first.
use Rattle.std.proofs.Common.{string_bytes, rules, tests}
use Rattle.std.proofs.lemmas.Iterator.{YieldsList-from_slice, YieldsList-from_map_by}
use Rattle.std.proofs.lemmas.Iterator.Adapters.{YieldsList-from_skip}
use Rattle.std.proofs.lemmas.Iterator.Consumers.{YieldsList-at, map_from_collect}
use Rattle.clear_main.proofs.start.words.Goals as goal

pub returns : goal.returns
returns c =
    let arguments = YieldsList-from_slice c.args.args.now (cc) in
    let skipped = YieldsList-from_skip 1 (YieldsList-at c.skip.ensures.source arguments) c.skip.ensures.count in
    map_from_collect _ c.collect.ensures.ran
    (YieldsList-from_map_by _ (λ text. text.now) string_bytes (YieldsList-at c.map.ensures.source skipped) c.map.ensures.closure
    (λ x r q k. search (rules, tests)))
