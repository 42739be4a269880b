use Rattle.std.proofs.Common.{◌≡◌, ◌≢◌, ℕ, ◌+◌, ◌<◌, List, length, get_or, map, sum, take, ap, sym, subst, ◌∙◌, arith}
use Rattle.std.proofs.lemmas.List.{length-map}
use Rattle.std.proofs.lemmas.List.Sums.{sum_by_more}
use Rattle.clr_net.specs.Division.{class_claims}
use Rattle.clr_net.specs.declared.rule.RuleKind.{RuleKind}
use Rattle.clr_net.proofs.Classes.{class_claims_here, class_claims_other, length-class_claims}
use Rattle.rule_level.specs.Levels.{at_level, awards_above, step_at}
use Rattle.rule_level.proofs.Above.{above_at}
use Rattle.rule_class.proofs.ClassSets.{IsClassSetTo, set_here, set_not_here}
use Rattle.rule_level.proofs.Limits.{class_claim_in_limit}
use Rattle.rule_level.proofs.Steps.{step_of_none, steps_at}
use Rattle.rule_level.proofs.level.set_awards.Goals.{then-classes-first, else-classes-first, then-classes-debt, else-classes-debt, then-loop-left-test+else-first-claims, else-loop-left-test}
use Rattle.rule_level.proofs.level.set_awards.Goals as goal

module _ (kind : RuleKind) (level class : ℕ) (claims classes : List ℕ) where
  abbrev mine : List ℕ
  mine = class_claims class claims classes

  abbrev steps : List ℕ
  steps = map (step_at kind level) mine

  -- what the debts up to a place take of the next level, with that place
  more_taken : (debt : ℕ) → debt < length claims → length claims ≡ length classes
      → sum (take (debt + 1) steps) ≡ sum (take debt steps) + get_or steps debt 0
  more_taken debt l same = sum_by_more (λ n. n) steps debt 0
      (omega (arith, length-map mine (step_at kind level), length-class_claims class claims classes))

  -- a debt of another class takes none of it
  no_step : (debt : ℕ) → get_or classes debt 0 ≢ class → get_or steps debt 0 ≡ 0
  no_step debt other =
      steps_at kind level mine debt ∙ ap (step_at kind level) (class_claims_other class claims classes debt other) ∙ step_of_none kind level

pub loop-left-preserved : goal.loop-left-preserved
loop-left-preserved c =
    let class = c.args.class in
    let kind = c.args.kind in
    let level = c.args.level in
    let claims = c.args.claims.now in
    let classes = c.args.classes.now in
    let own = awards_above kind level c.args.above (mine kind level class claims classes) in
    let had = c.args.into.now in
    let debt = c.loop-left.first in
    let left_is = c.loop-left.invariant.left in
    let mine_step = steps_at kind level (mine kind level class claims classes) debt in
    let more = more_taken kind level class claims classes debt c.if-first-claims.true c.requires.a_class_each in
    elim c.if-classes-first.branch [
      | then-classes-first w ↦
          let claim = class_claims_here class claims classes debt c.requires.first w.if-classes-first.true in
          let step : step_at kind level (get_or claims debt 0) ≡ get_or (steps kind level class claims classes) debt 0 =
          ap (step_at kind level) (sym claim) ∙ sym mine_step in
          let base : w.award_at.result ≡ at_level kind level (get_or (mine kind level class claims classes) debt 0) =
          w.award_at.ensures ∙ ap (at_level kind level) (sym claim) in
          let award : w.award_at.result + w.min-more.result ≡ get_or own debt 0 = omega (
            arith,
            above_at kind level c.args.above (mine kind level class claims classes)
                (class_claim_in_limit class claims classes c.requires.limit) debt,
            base,
            step,
            mine_step,
            w.min-more.ensures,
            w.step_of.ensures.step,
            left_is,
          ) in
          record {
            set = subst (IsClassSetTo class classes own had (debt + 1)) (sym w.into-is)
                (set_here class classes own had debt c.loop-left.into (omega (arith, c.requires.a_place_each, c.if-first-claims.true))
                c.loop-left.invariant.set w.if-classes-first.true (w.award_at.result + w.min-more.result) award);
            left = omega (arith, w.left-is, w.min-more.ensures, w.step_of.ensures.step, step, left_is, more);
            within = omega (arith, c.if-first-claims.true);
          }
      | else-classes-first w ↦ record {
        set = subst (IsClassSetTo class classes own had (debt + 1)) (sym w.into-is)
            (set_not_here class classes own had debt c.loop-left.into c.loop-left.invariant.set w.if-classes-first.false);
        left = omega (arith, w.left-is, left_is, more, no_step kind level class claims classes debt w.if-classes-first.false);
        within = omega (arith, c.if-first-claims.true);
      }
    ]

pub loop-debt-preserved : goal.loop-debt-preserved
loop-debt-preserved c =
    let class = c.args.class in
    let kind = c.args.kind in
    let level = c.args.level in
    let claims = c.args.claims.now in
    let classes = c.args.classes.now in
    let own = awards_above kind level c.args.above (mine kind level class claims classes) in
    let had = c.args.into.now in
    let debt = c.loop-debt.debt in
    let none_left = c.loop-debt.invariant.none_left c.loop-debt-test.true in
    let more = more_taken kind level class claims classes debt c.loop-debt-test.true c.requires.a_class_each in
    elim c.if-classes-debt.branch [
      | then-classes-debt w ↦
          let claim = class_claims_here class claims classes debt c.requires.first w.if-classes-debt.true in
          let base : w.award_at-then-classes-debt.result ≡ at_level kind level (get_or (mine kind level class claims classes) debt 0) =
          w.award_at-then-classes-debt.ensures ∙ ap (at_level kind level) (sym claim) in
          let award : w.award_at-then-classes-debt.result ≡ get_or own debt 0 = omega (
            arith,
            above_at kind level c.args.above (mine kind level class claims classes)
                (class_claim_in_limit class claims classes c.requires.limit) debt,
            base,
            none_left,
          ) in
          record {
            set = subst (IsClassSetTo class classes own had (debt + 1)) (sym w.into-is)
                (set_here class classes own had debt c.loop-debt.into (omega (arith, c.requires.a_place_each, c.loop-debt-test.true))
                c.loop-debt.invariant.set w.if-classes-debt.true w.award_at-then-classes-debt.result award);
            none_left = λ l. omega (arith, none_left, more);
          }
      | else-classes-debt w ↦ record {
        set = subst (IsClassSetTo class classes own had (debt + 1)) (sym w.into-is)
            (set_not_here class classes own had debt c.loop-debt.into c.loop-debt.invariant.set w.if-classes-debt.false);
        none_left = λ l. omega (arith, none_left, more);
      }
    ]
