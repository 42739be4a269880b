use Rattle.std.proofs.Common.{ℕ, ◌∙◌, List, [], ◌∷◌, ◌++◌, get_or, ap, sym, arith}
use Rattle.std.proofs.lemmas.List.{take_all, take_more}
use Rattle.clear_stress.proofs.scenarios.in_four_bytes.Goals as goal

pub push_reserved-requires : goal.push_reserved-requires
push_reserved-requires c = omega (arith, c.loop-units.invariant.len, c.loop-units.invariant.room, c.loop-units-test.true)

pub loop-units-preserved : goal.loop-units-preserved
loop-units-preserved c = record {
  items =
      c.push_reserved.ensures.items
      ∙ ap (λ (us : List ℕ). us ++ get_or c.args.paid.now c.loop-units.units-index 0 ∷ []) c.loop-units.invariant.items
      ∙ sym (take_more c.args.paid.now c.loop-units.units-index 0 c.loop-units-test.true);
  len = omega (arith, c.push_reserved.ensures.len, c.loop-units.invariant.len);
  room = omega (arith, c.push_reserved.ensures.capacity, c.loop-units.invariant.room);
}

pub returns : goal.returns
returns c = c.loop-units.invariant.items ∙ take_all c.loop-units.units-index c.args.paid.now c.loop-units-test.false
