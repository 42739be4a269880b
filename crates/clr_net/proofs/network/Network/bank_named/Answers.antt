use Rattle.std.proofs.Common.{true≢false, refl, sym, ◌∙◌}
use Rattle.clr_net.proofs.BankNames.{place_of_name, named_there, new_without_place}
use Rattle.clr_net.proofs.network.Network.bank_named.Goals as goal

pub returns-in-Some-clause-place : goal.returns-in-Some-clause-place
returns-in-Some-clause-place c =
    (c.in-Some.ensures).index ∙ place_of_name c.args.self.now c.args.name.now c.self.inside
    c.self.view_is c.self.invariant

pub returns-in-Some-clause-found : goal.returns-in-Some-clause-found
returns-in-Some-clause-found c =
    named_there c.args.self.now c.args.name.now c.in-Some.i (sym (returns-in-Some-clause-place c))

pub returns-in-Some-clause-none : goal.returns-in-Some-clause-none
returns-in-Some-clause-none c =
    let there = returns-in-Some-clause-found c in
    (λ e. absurd (true≢false e), λ new. absurd (new c.in-Some.i there.0 there.1))

pub returns-in-None-clause-place : goal.returns-in-None-clause-place
returns-in-None-clause-place c =
    (c.in-None.ensures).index ∙ place_of_name c.args.self.now c.args.name.now c.self.inside
    c.self.view_is c.self.invariant

pub returns-in-None-clause-none : goal.returns-in-None-clause-none
returns-in-None-clause-none c = (
  λ _. new_without_place c.args.self.now c.args.name.now (sym (returns-in-None-clause-place c)),
  λ _. refl,
)
