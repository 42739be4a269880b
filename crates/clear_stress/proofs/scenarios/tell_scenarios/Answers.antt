-- Each block waits to be that of its scenario.
use Rattle.std.proofs.Common.{◌≡◌, ◌+◌, ◌-◌, [], get_or, length, ap, ◌∙◌, arith}
use Rattle.clear_stress.specs.Told.{block_of}
use Rattle.clear_stress.specs.Waiting.{WaitsAt, waiting_text}
use Rattle.shares.proofs.InOrder.{read_list}
use Rattle.stress.specs.declared.scenario.Scenario.{Scenario}
use Rattle.clear_stress.proofs.scenarios.tell_scenarios.Goals as goal

pub returns : goal.returns
returns g c =
    let net = c.args.net.now in
    let scenarios = c.args.scenarios.now in
    let heads = c.in_ok-heads.heads.items in
    let made = c.in_ok-pieces.ensures in
    let none : Scenario = record { name = []; cut = 0; losses = [] } in
    let all : length scenarios - 0 ≡ length scenarios = omega arith in
    read_list (WaitsAt net scenarios) (waiting_text heads) (block_of net) 0 scenarios none c.in_ok-pieces.field-0.pieces.items
    (λ k w is. is none heads c.in_ok-heads.ensures ∙ (let at : 0 + k ≡ k = omega arith in ap (λ i. block_of net (get_or scenarios i none)) at))
    (made.as_many ∙ all) made.in_order
