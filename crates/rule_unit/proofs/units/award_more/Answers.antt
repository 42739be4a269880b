use Rattle.std.proofs.Common.{◌<◌, refl, ap, sum, sym, ◌∙◌, arith, length, rules}
use Rattle.rule_unit.specs.Units.{awards_after}
use Rattle.rule_unit.proofs.Lists.{sum-le, sum_raised}
use Rattle.rule_unit.proofs.UnitByUnit.{raised_within, awards_after_chosen, awards_after_stopped}
use Rattle.rule_unit.proofs.units.award_more.Goals as goal

pub loop-given-init : goal.loop-given-init
unfolding awards_after
loop-given-init g c = record { given_out = refl; none_lost = omega arith; still_within = c.requires.within }

pub bounds-awards-debt : goal.bounds-awards-debt
bounds-awards-debt g c =
    let unmet = (g.met.R.UnitRule.laws c.args.rule.now).unmet c.args.claims.now c.loop-given.awards c.in-Some.debt
    c.loop-given.invariant.still_within (sym c.next.ensures ∙ c.in-Some.is) in
    omega (arith, unmet.0, c.loop-given.invariant.still_within.as_many)

pub offset_bounds-awards-debt : goal.offset_bounds-awards-debt
offset_bounds-awards-debt g c =
    let unmet = (g.met.R.UnitRule.laws c.args.rule.now).unmet c.args.claims.now c.loop-given.awards c.in-Some.debt
    c.loop-given.invariant.still_within (sym c.next.ensures ∙ c.in-Some.is) in
    let in_range : c.in-Some.debt < length c.loop-given.awards = omega (arith, unmet.0, c.loop-given.invariant.still_within.as_many) in
    search rules

pub loop-given-preserved : goal.loop-given-preserved
loop-given-preserved g c =
    let claims = c.args.claims.now in
    let awards = c.loop-given.awards in
    let within = c.loop-given.invariant.still_within in
    let chosen = sym c.next.ensures ∙ c.in-Some.is in
    let unmet = (g.met.R.UnitRule.laws c.args.rule.now).unmet claims awards c.in-Some.debt within chosen in
    record {
      given_out = awards_after_chosen (g.R.UnitRule.choice c.args.rule.now) claims c.args.awards.now awards c.loop-given.given
          c.in-Some.debt c.loop-given.invariant.given_out chosen;
      none_lost = omega (arith, sum_raised awards c.in-Some.debt (omega (arith, unmet.0, within.as_many)), c.loop-given.invariant.none_lost);
      still_within = raised_within claims awards c.in-Some.debt unmet.1 within;
    }

pub returns-in-None-clause-given_out : goal.returns-in-None-clause-given_out
returns-in-None-clause-given_out g c =
    awards_after_stopped (g.R.UnitRule.choice c.args.rule.now) c.args.claims.now c.args.awards.now c.loop-given.awards c.loop-given.given
    c.args.units c.loop-given.invariant.given_out (sym c.next.ensures ∙ c.in-None.is) (omega (arith, c.loop-given-test.true))

pub returns-in-None-clause-left : goal.returns-in-None-clause-left
returns-in-None-clause-left g c =
    let met = ((g.met.R.UnitRule.laws c.args.rule.now).none_where_met c.args.claims.now c.loop-given.awards
    c.loop-given.invariant.still_within).0 (sym c.next.ensures ∙ c.in-None.is) in
    omega (arith, ap sum met, c.loop-given.invariant.none_lost)

pub returns-clause-left : goal.returns-clause-left
returns-clause-left g c =
    omega (
      arith,
      sum-le c.loop-given.awards c.args.claims.now c.loop-given.invariant.still_within.within,
      c.loop-given.invariant.none_lost,
      c.loop-given-test.false,
    )
