use Rattle.std.proofs.Common.{ap, ◌∙◌, arith}
use Rattle.rescue.specs.Rescue.{short_of}
use Rattle.rescue.proofs.SavedBesides.{as_many_after, counted_after}
use Rattle.rescue.proofs.saved.saving_at.Goals as goal

pub in_default-requires : goal.in_default-requires
in_default-requires c =
    let as_many = as_many_after c.args.before.now.net.now c.args.bank.0 c.as_slice-2.result.now
    (c.as_slice-2.ensures.value ∙ c.in_ok-after.ensures.all) in
    omega (arith, c.requires.network.banks_in_limit)

pub returns-clause-saving : goal.returns-clause-saving
returns-clause-saving c =
    let net = c.args.before.now.net.now in
    let i = c.args.bank.0 in
    record {
      added = c.in_ok-found.ensures.added;
      short = c.in_ok-found.ensures.short ∙ ap (short_of net i) c.in_ok-found.ensures.added;
      saves = c.in_ok-passing.ensures.banks;
      known = c.in_ok-passing.ensures.known;
      still_short = c.in_default.ensures
          ∙ counted_after net i c.as_slice-2.result.now
          (c.as_slice-2.ensures.value ∙ c.in_ok-after.ensures.all);
    }
