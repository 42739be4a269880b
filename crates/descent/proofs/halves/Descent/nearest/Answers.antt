-- A step that is taken out is one of the descent's, and those that are left are too.
use Rattle.std.proofs.Common.{◌≡◌, ℕ, ◌++◌, List, Option, Some, IfSome, subst, arith}
use Rattle.std.specs.Global.{Vec}
use Rattle.std.specs.Option.{option_to_list}
use Rattle.std.proofs.lemmas.List.Elements.{All-pop}
use Rattle.clr_net.specs.Net.{Net}
use Rattle.descent.specs.Halves.{IsDescentOf, IsWideStepOf}
use Rattle.descent.specs.declared.halves.Descent.{Descent}
use Rattle.descent.specs.declared.halves.Step.{Step}
use Rattle.descent.proofs.halves.Descent.nearest.Goals as goal

-- what is left is a descent
left : {net : Net} {size : ℕ} {floor : ℕ → ℕ → ℕ → ℕ} {d : Descent} (steps : Vec Step) (r : Option Step)
    → IsDescentOf net size floor d → d.steps.items ≡ steps.items ++ option_to_list r
    → IsDescentOf net size floor (record d { steps = steps })
left {net = net} {size = size} {floor = floor} {d = d} steps r old popped = record {
  alike = old.alike;
  steps = (All-pop (IsWideStepOf net size floor) d.steps.items steps.items r popped old.steps).0;
  for_each_bank = old.for_each_bank;
  room = old.room;
}

-- and what is taken out is a step
taken : {net : Net} {size : ℕ} {floor : ℕ → ℕ → ℕ → ℕ} {d : Descent} (ids : List Step) (r : Option Step) (s : Step)
    → IsDescentOf net size floor d → d.steps.items ≡ ids ++ option_to_list r → r ≡ Some s
    → IsWideStepOf net size floor s
taken {net = net} {size = size} {floor = floor} {d = d} ids r s old popped is =
    subst (λ o. IfSome o (IsWideStepOf net size floor)) is
    (All-pop (IsWideStepOf net size floor) d.steps.items ids r popped old.steps).1

pub loop-step-init : goal.loop-step-init
loop-step-init g c = c.requires.ready.descent

pub returns-then-number-step-clause-descent : goal.returns-then-number-step-clause-descent
returns-then-number-step-clause-descent g c =
    left c.pop.new.self c.pop.result c.loop-step.invariant c.pop.ensures.items

pub returns-then-number-step-clause-step : goal.returns-then-number-step-clause-step
returns-then-number-step-clause-step g c =
    (taken c.pop.new.self.items c.pop.result c.in-Some.step c.loop-step.invariant c.pop.ensures.items
    c.in-Some.is).0

pub returns-then-number-step-clause-laid : goal.returns-then-number-step-clause-laid
returns-then-number-step-clause-laid g c alone =
    let wide = (taken c.pop.new.self.items c.pop.result c.in-Some.step c.loop-step.invariant c.pop.ensures.items c.in-Some.is).1 in
    absurd (omega (arith, wide, alone))

pub loop-step-preserved : goal.loop-step-preserved
loop-step-preserved g c = left c.pop.new.self c.pop.result c.loop-step.invariant c.pop.ensures.items

pub begun-requires-clause-ready : goal.begun-requires-clause-ready
begun-requires-clause-ready g c = record {
  network = c.requires.ready.network;
  its_own = c.requires.ready.its_own;
  descent = left c.pop.new.self c.pop.result c.loop-step.invariant c.pop.ensures.items;
}
