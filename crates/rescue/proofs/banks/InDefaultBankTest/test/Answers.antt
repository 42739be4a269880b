use Rattle.std.proofs.Common.{ap, ◌∙◌, arith}
use Rattle.cascade.specs.Standings.{is_default}
use Rattle.cascade.specs.declared.standing.Standing.{Standing}
use Rattle.clear_core.specs.Clearing.{least}
use Rattle.cascade.proofs.Stands.{as_many_stand, stands_there}
use Rattle.rescue.proofs.banks.InDefaultBankTest.test.Goals as goal

pub bounds-self-bank : goal.bounds-self-bank
bounds-self-bank c =
    let net = c.args._net.now in
    omega (arith, as_many_stand net (least net) c.args.self.now.standings.now c.requires.can, c.requires.bank)

pub returns : goal.returns
returns c =
    let net = c.args._net.now in
    c.is_default.ensures
    ∙ ap (λ (s : Standing). is_default s.health)
    (stands_there net (least net) c.args.self.now.standings.now c.requires.can c.args.bank.0 _
    c.requires.bank)
