use Rattle.std.proofs.Common.{not, sym, ap, ne_eqb, true, arith}
use Rattle.clear_core.specs.Clearing.{least}
use Rattle.cascade.proofs.Stands.{as_many_stand}
use Rattle.rescue.proofs.SavedBesides.{as_many_after, saving_told}
use Rattle.rescue.proofs.saved.SavedWithBankTest.test.Goals as goal

pub bounds-self-place : goal.bounds-self-place
bounds-self-place c =
    let net = c.args._net.now in
    omega (arith, as_many_stand net (least net) c.args.self.now.before.now c.requires.can.0, c.requires.bank)

pub bounds-self-place-2 : goal.bounds-self-place-2
bounds-self-place-2 c =
    let t = c.args.self.now in
    omega (arith, as_many_after c.args._net.now t.bank.0 t.after.now c.requires.can.1, c.requires.bank)

pub returns-then-other-self : goal.returns-then-other-self
returns-then-other-self c =
    let t = c.args.self.now in
    saving_told c.args._net.now t.bank.0 c.args.other.0 t.before.now t.after.now
    c.requires.can.0 c.requires.can.1 c.requires.bank _ _ true c.is_cured-becomes_sound.result
    (sym (ap not (ne_eqb c.args.other.0 t.bank.0 c.if-other-self.true)))
    c.is_cured-becomes_sound.ensures
