use Rattle.std.proofs.Common.{arith}
use Rattle.cascade.specs.Ruin.{hit}
use Rattle.cascade.proofs.Stands.{as_many_stand}
use Rattle.impact.proofs.Hurts.{bank_after, keeps_less, kept_within, no_more, told}
use Rattle.impact.proofs.compare.Ruin.hurt_of.Goals as goal

pub bounds-self-place : goal.bounds-self-place
bounds-self-place c =
    omega (arith, as_many_stand c.args.self.now.net.now _ c.args.self.now.before.now c.args.self.now.stood)

pub bounds-self-place-2 : goal.bounds-self-place-2
bounds-self-place-2 c =
    let bank = bank_after c.args.self.now.net.now c.args.self.now.ruined.0 c.args.bank.0 c.requires.bank in
    let after = hit c.args.self.now.net.now c.args.self.now.ruined.0 in
    omega (arith, as_many_stand after _ c.args.self.now.after.now c.args.self.now.stands)

pub kept-requires : goal.kept-requires
kept-requires c =
    kept_within c.args.self.now.net.now _ _ c.args.self.now.stood c.args.bank.0 _ c.requires.bank

pub kept-requires-2 : goal.kept-requires-2
kept-requires-2 c =
    kept_within (hit c.args.self.now.net.now c.args.self.now.ruined.0) _ _ c.args.self.now.stands c.args.bank.0 _
    (bank_after c.args.self.now.net.now c.args.self.now.ruined.0 c.args.bank.0 c.requires.bank)

pub overflow_sub-result : goal.overflow_sub-result
overflow_sub-result c =
    no_more c.args.self.now.net.now c.args.self.now.ruined.0 c.args.bank.0 c.args.self.now.before.now c.args.self.now.after.now
    c.args.self.now.stood c.args.self.now.stands c.requires.bank c.requires.network c.args.self.now.known _ _
    c.kept.result c.kept-2.result c.kept.ensures c.kept-2.ensures

pub returns : goal.returns
returns c =
    let net = c.args.self.now.net.now in
    let less = keeps_less net c.args.self.now.ruined.0 c.args.bank.0 c.args.self.now.before.now c.args.self.now.after.now
    c.args.self.now.stood c.args.self.now.stands c.requires.bank _ _ c.kept.result c.kept-2.result
    c.kept.ensures c.kept-2.ensures in
    told net c.args.self.now.ruined.0 c.args.bank.0 c.args.self.now.before.now c.args.self.now.after.now
    c.args.self.now.stood c.args.self.now.stands c.requires.bank _ _ _ _ less c.falls.ensures
