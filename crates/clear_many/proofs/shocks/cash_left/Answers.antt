use Rattle.std.proofs.Common.{◌≡◌, ◌++◌, [], ◌∷◌, get_or, map, sym, ap, ◌∙◌, arith}
use Rattle.std.proofs.lemmas.List.{map_more, take_all}
use Rattle.clr_net.specs.Net.{Net, of_cash}
use Rattle.stress.specs.Shocks.{shocked}
use Rattle.stress.specs.declared.scenario.Scenario.{Scenario}
use Rattle.clear_many.specs.Shocked.{cash_row, cash_rows}
use Rattle.clear_many.proofs.shocks.cash_left.Goals as goal

pub loop-place-init : goal.loop-place-init
loop-place-init c = record {
  alike = (
    ap (λ (m : Net). map (of_cash 0) m.banks) c.in_ok-left.ensures,
    ap (λ (m : Net). m.debts) c.in_ok-left.ensures,
  );
  so_far = c.in_ok-rows.ensures.items;
}

pub loop-place-preserved : goal.loop-place-preserved
loop-place-preserved c =
    let net = c.args.net.now in
    let n = c.loop-place.place in
    let all = c.args.scenarios.now in
    let first = c.index-scenarios-place.result in
    let row : c.in_ok-cash_of_all.field-0 ≡ cash_row (shocked net (get_or all n first)) =
    c.in_ok-cash_of_all.ensures
    ∙ ap cash_row c.shock_again.ensures.left
    ∙ ap (λ (s : Scenario). cash_row (shocked net s)) c.index-scenarios-place.is in
    record {
      alike = c.shock_again.ensures.alike;
      so_far = c.in_ok-push.ensures.items
          ∙ (λ k. c.loop-place.invariant.so_far k ++ row k ∷ [])
          ∙ sym (map_more (λ (s : Scenario). cash_row (shocked net s)) all n first (omega arith));
    }

pub returns : goal.returns
returns c =
    c.loop-place.invariant.so_far
    ∙ ap (cash_rows c.args.net.now) (take_all c.loop-place.place c.args.scenarios.now (omega arith))
