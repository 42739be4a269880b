use Rattle.std.proofs.Common.{ℕ, length, replicate, arith}
use Rattle.std.proofs.lemmas.List.{ext_get_or, length-replicate}
use Rattle.clr_net.proofs.Lists.{zeros_at}
use Rattle.upper.proofs.Hits.{listed_place}
use Rattle.upper.proofs.falls.wipe.Goals as goal

pub returns : goal.returns
returns c =
    let n = length c.args.units.now in
    let old = c.loop-bank.invariant in
    let as_many = length-replicate {A = ℕ} n 0 in
    ext_get_or 0 c.loop-bank.units (replicate n 0) (omega arith) (λ i l.
    let place = listed_place c.args.banks.now i in
    grind (arith, c.requires.listed i, place, old.wiped, old.others i, zeros_at n i))
