use Rattle.std.proofs.Common.{◌≡◌, All, List, refl, sym, ap, ap₂, ◌∙◌, subst, arith, rules}
use Rattle.std.specs.Global.{Vec}
use Rattle.clr_net.specs.declared.debt.BankId.{BankId}
use Rattle.compress.specs.declared.step.Step.{Step}
use Rattle.compress.specs.Walk.{IsStep, end_of, numbers}
use Rattle.std.proofs.lemmas.List.{get_or_read}
use Rattle.compress.specs.declared.mark.Mark.{Mark}
use Rattle.compress.specs.declared.mark.Mark.TheVariants.{Done}
use Rattle.compress.proofs.Steps.{kept_then}
use Rattle.compress.proofs.Telling.{begun, begun_kept}
use Rattle.compress.proofs.walk.walk_from.Goals.{After-end_of-end}
use Rattle.compress.proofs.walk.walk_from.Goals as goal

pub loop-claims-init : goal.loop-claims-init
loop-claims-init c = record {
  under_way = begun c.args.start c.requires.rest
      (omega (arith, c.requires.rest.told.sizes.marks, c.banks.ensures.banks))
      c.requires.new;
  start = refl;
  kept = begun_kept c.args.net.now c.args.class c.args.claims.now c.args.walk.now.marks.items
      c.args.start.0 c.requires.new;
}

-- the end of the walk, as the step back from it takes it
ended : (c : After-end_of-end) → c.end_of-end.result.0 ≡ end_of c.args.net.now
    c.loop-claims.walk.start.0 (numbers c.loop-claims.walk.steps.items)
ended c =
    let under_way = c.loop-claims.invariant.under_way in
    c.end_of-end.ensures c.args.net.now
    (subst (All (IsStep c.args.net.now)) (sym c.as_slice.ensures.value) under_way.steps)
    ∙ ap₂ (λ (steps : List Step) (b : BankId). end_of c.args.net.now b.0 (numbers steps))
    c.as_slice.ensures.value (sym c.loop-claims.invariant.start)

pub step_back-requires-clause-end : goal.step_back-requires-clause-end
step_back-requires-clause-end c = ended (goal.at.step_back-requires-clause-end c).After-end_of-end

pub cancel-requires-clause-place : goal.cancel-requires-clause-place
cancel-requires-clause-place c =
    let under_way = c.step_back.ensures.under_way in
    let said = c.in-Some.ensures in
    (under_way.walk.placed c.in-Some.step.debtor.0 c.in-Walked.place
    (sym (get_or_read c.step_back.new.walk.marks.items c.in-Some.step.debtor.0 c.index.result.now
    (omega (
      arith,
      said.step,
      (c.banks.ensures.network.each_debt _ said.next.live.debt).debtor_known,
      under_way.told.sizes.marks,
    )) c.index.ensures Done) ∙ c.in-Walked.is)).0

pub loop-claims-preserved-else-retire : goal.loop-claims-preserved-else-retire
loop-claims-preserved-else-retire c =
    let old = c.loop-claims.invariant in
    record {
      under_way = search rules;
      start = c.retire.ensures.start ∙ c.step_back.ensures.start ∙ old.start;
      kept = kept_then old.kept (ap (λ (v : Vec Mark). v.items) c.step_back.ensures.marks)
          c.retire.ensures.kept;
    }

pub loop-claims-preserved-in-Walked : goal.loop-claims-preserved-in-Walked
loop-claims-preserved-in-Walked c =
    let old = c.loop-claims.invariant in
    record {
      under_way = c.cancel.ensures.under_way;
      start = c.cancel.ensures.start ∙ c.step_back.ensures.start ∙ old.start;
      kept = kept_then old.kept (ap (λ (v : Vec Mark). v.items) c.step_back.ensures.marks)
          c.cancel.ensures.kept;
    }

pub loop-claims-preserved : goal.loop-claims-preserved
loop-claims-preserved c =
    let old = c.loop-claims.invariant in
    let said = c.in_ok-grow-in_default.ensures in
    record {
      under_way = said.under_way;
      start = said.start ∙ c.step_back.ensures.start ∙ old.start;
      kept = kept_then old.kept (ap (λ (v : Vec Mark). v.items) c.step_back.ensures.marks)
          said.kept;
    }
