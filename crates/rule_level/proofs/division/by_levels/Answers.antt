use Rattle.std.proofs.Common.{◌-◌, refl, sym, ◌∙◌, arith}
use Rattle.clr_net.specs.Division.{next_of}
use Rattle.clr_net.proofs.Award.{kind_is_unit_choice}
use Rattle.rule_class.proofs.InPlace.{in_place_turn, in_place_past, in_place_is}
use Rattle.rule_level.proofs.ClassTurns.{full_turn}
use Rattle.rule_level.proofs.Ends.{ends_in_class}
use Rattle.rule_level.proofs.division.by_levels.Goals as goal

pub loop-class-preserved : goal.loop-class-preserved
loop-class-preserved c =
    let kind = c.args.kind in
    let claims = c.args.claims.now in
    let classes = c.args.classes.now in
    let class = c.loop-class.class in
    let left = c.loop-class.left in
    let total = c.class_total-total.result in
    let full = full_turn kind claims classes class (omega arith) claims
    (record { as_many = refl; within = λ k. omega arith }) left (λ p. refl)
    (omega (arith, c.class_total-total.ensures)) in
    in_place_turn (next_of kind) claims classes class (9 - class) left total claims claims (omega arith)
    (omega (arith, c.class_total-total.ensures))
    (rw (c.class_total-total.ensures) full)
    ∙ c.loop-class.invariant

pub returns-then-left-total : goal.returns-then-left-total
returns-then-left-total c =
    let kind = c.args.kind in
    let claims = c.args.claims.now in
    let classes = c.args.classes.now in
    ends_in_class kind claims classes c.loop-class.class c.loop-class.left c.end_in_class.new.into
    c.clear_above.new.into (omega arith) (λ k. omega (arith, c.last_class-class-end.ensures.last k))
    (omega (arith, c.class_total-total.ensures)) c.end_in_class.ensures c.clear_above.ensures
    ∙ c.loop-class.invariant
    ∙ in_place_is (next_of kind) (kind_is_unit_choice kind) claims classes c.args.estate
    c.requires.a_class_each c.requires.classed

pub returns : goal.returns
returns c =
    let kind = c.args.kind in
    let claims = c.args.claims.now in
    let classes = c.args.classes.now in
    c.copy_from_slice.ensures.after
    ∙ sym (in_place_past (next_of kind) claims classes c.loop-class.class (10 - c.loop-class.class) c.loop-class.left
    claims (λ k. omega (arith, c.last_class-class-end.ensures.last k)))
    ∙ c.loop-class.invariant
    ∙ in_place_is (next_of kind) (kind_is_unit_choice kind) claims classes c.args.estate
    c.requires.a_class_each c.requires.classed
