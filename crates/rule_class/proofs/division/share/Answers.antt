use Rattle.std.proofs.Common.{◌-◌, sym, ◌∙◌, arith}
use Rattle.rule_class.proofs.InPlace.{in_place_turn, in_place_ends, in_place_is}
use Rattle.rule_class.proofs.division.share.Goals as goal

pub loop-class-preserved : goal.loop-class-preserved
loop-class-preserved g c = record {
  rest = in_place_turn (g.R.UnitRule.choice c.args.rule.now) c.args.claims.now c.args.classes.now c.loop-class.class (9 - c.loop-class.class)
      c.loop-class.left c.one_class-left.result c.loop-class.into c.one_class-left.new.into (omega arith)
      c.one_class-left.ensures.given c.one_class-left.ensures.given_out
      ∙ c.loop-class.invariant.rest;
  within = c.one_class-left.ensures.still_within;
}

pub returns : goal.returns
returns g c =
    let choice = g.R.UnitRule.choice c.args.rule.now in
    let claims = c.args.claims.now in
    let classes = c.args.classes.now in
    sym (in_place_ends choice claims classes c.loop-class.class c.loop-class.left c.loop-class.into (omega arith))
    ∙ c.loop-class.invariant.rest
    ∙ in_place_is choice (g.met.R.UnitRule.laws c.args.rule.now) claims classes c.args.estate c.requires.a_class_each c.requires.classed
