use Rattle.std.proofs.Common.{arith}
use Rattle.upper.proofs.Hits.{listed_place}
use Rattle.upper.proofs.short.mark_short.Goals as goal

pub returns : goal.returns
returns c =
    let old = c.loop-bank.invariant in
    let hit = c.banks-bank-items.ensures in
    record {
      as_many = old.as_many;
      short = λ i l none below.
          let place = listed_place c.banks-bank-items.result.now i in
          grind (arith, c.requires.enough i l, hit.listed i, place, old.short);
      enough = old.enough;
      had = old.had;
    }
