use Rattle.std.proofs.Common.{◌≡◌, ◌+◌, ◌-◌, ℕ, sum, take, refl, subst, arith}
use Rattle.clr_net.specs.Division.{class_claims}
use Rattle.clr_net.proofs.Classes.{class_claims_le}
use Rattle.clr_net.proofs.Lists.{sum-le}
use Rattle.rule_class.specs.ClassSet.{IsClassSet}
use Rattle.rule_level.specs.Levels.{at_level, awards_above, level_awards}
use Rattle.rule_level.proofs.ClassTurns.{level_turn}
use Rattle.rule_level.proofs.Gathering.{same_total}
use Rattle.rule_level.proofs.Levels.{at_level_of_none}
use Rattle.rule_level.proofs.Limits.{class_claim_in_limit}
use Rattle.rule_level.proofs.division.end_in_class.Goals as goal

pub level_for-level-requires-clause-total : goal.level_for-level-requires-clause-total
level_for-level-requires-clause-total c =
    let claims = c.args.claims.now in
    let mine = class_claims c.args.class claims c.args.classes.now in
    omega (
      arith,
      same_total (take c.gather-many.result c.gather-many.new.into) mine c.gather-many.ensures.claims,
      sum-le mine claims (class_claims_le c.args.class claims c.args.classes.now),
      c.requires.in_all,
    )

pub level_for-level-requires-clause-claimed : goal.level_for-level-requires-clause-claimed
level_for-level-requires-clause-claimed c =
    let mine = class_claims c.args.class c.args.claims.now c.args.classes.now in
    omega (arith, same_total (take c.gather-many.result c.gather-many.new.into) mine c.gather-many.ensures.claims, c.requires.claimed)

pub returns : goal.returns
returns c =
    let kind = c.args.kind in
    let claims = c.args.claims.now in
    let classes = c.args.classes.now in
    let class = c.args.class in
    let mine = class_claims class claims classes in
    let level = c.level_for-level.result.0 in
    let found = c.level_for-level.ensures in
    let alike = λ (t : ℕ). c.gather-many.ensures.claims (at_level kind t) (at_level_of_none kind t) in
    let set : IsClassSet class classes
    (awards_above kind level (c.args.left - c.level_for-level.result.1) mine) claims c.set_awards.new.into =
    subst (λ had. IsClassSet class classes (awards_above kind level (c.args.left - c.level_for-level.result.1) mine) had
    c.set_awards.new.into) c.copy_from_slice.ensures.after c.set_awards.ensures in
    let given : c.level_for-level.result.1 ≡ sum (level_awards kind level mine) =
    omega (arith, found.given, alike level) in
    level_turn kind claims classes class c.requires.first claims
    (record { as_many = refl; within = λ k. omega arith }) c.args.left (λ p. refl) level
    c.set_awards.new.into (class_claim_in_limit class claims classes c.requires.limit)
    (omega (arith, given, found.low)) (omega (arith, found.high, alike (level + 1)))
    (subst (λ u. IsClassSet class classes (awards_above kind level (c.args.left - u) mine) claims
    c.set_awards.new.into) given set)
