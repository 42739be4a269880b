use Rattle.std.proofs.Common.{ℕ, ◌<◌, ◌≤◌, List, length, get_or, refl, sym, ap, subst, arith}
use Rattle.std.proofs.lemmas.List.{length-map}
use Rattle.std.proofs.lemmas.List.Elements.{All-take}
use Rattle.compress.specs.declared.step.Step.{Step}
use Rattle.compress.specs.Compression.{IsLive}
use Rattle.compress.specs.Walk.{IsStep, numbers}
use Rattle.compress.proofs.Cycles.{live_claim}
use Rattle.compress.proofs.Cancelling.{cancelling_begins, cancelling_ends, last_is_step, step_last, step_more, IsLast}
use Rattle.compress.proofs.Telling.{cancelled_told}
use Rattle.compress.proofs.cancel.cancel.Goals.{After-as_slice, After-truncate}
use Rattle.compress.proofs.cancel.cancel.Goals as goal

-- the debts of the walk, as they are laid out, are those of the walk
laid : (c : After-as_slice) → (k : ℕ) → k < length c.as_slice.result.now
    → IsLive c.args.net.now c.args.claims.now c.args.class (get_or (numbers c.as_slice.result.now) k 0)
laid c k l =
    let w = c.args.walk.now in
    let same = c.as_slice.ensures.value in
    subst (λ (ids : List Step). IsLive c.args.net.now c.args.claims.now c.args.class (get_or (numbers ids) k 0))
    (sym same) (c.requires.under_way.walk.live k
    (omega (arith, l, length-map w.steps.items (λ s. s.debt.0), ap length same)))

pub least_claim-least-requires-clause-closing : goal.least_claim-least-requires-clause-closing
least_claim-least-requires-clause-closing c = omega (arith, c.requires.closing.debt, c.requires.claims)

pub least_claim-least-requires-clause-debts : goal.least_claim-least-requires-clause-debts
least_claim-least-requires-clause-debts c k l =
    let live = laid c k l in omega (arith, live.debt, c.requires.claims)

pub least_claim-least-requires-clause-live : goal.least_claim-least-requires-clause-live
least_claim-least-requires-clause-live c k l = live_claim (laid c k l)

pub bounds-claims-closing : goal.bounds-claims-closing
bounds-claims-closing c = omega (arith, c.requires.closing.debt, c.requires.claims)

pub overflow_sub-claims : goal.overflow_sub-claims
overflow_sub-claims c = c.least_claim-least.ensures.closing

pub bounds-claims-closing-2 : goal.bounds-claims-closing-2
bounds-claims-closing-2 c = omega (arith, c.requires.closing.debt, c.requires.claims)

pub loop-walk-init : goal.loop-walk-init
loop-walk-init c =
    let C = c.args.claims.now in
    let w = c.args.walk.now in
    let least = c.least_claim-least in
    let begins = cancelling_begins c.args.net.now c.args.class w.start.0 c.args.place least.result C
    (numbers w.steps.items) w.marks.items c.args.closing.0 c.requires.claims
    c.requires.under_way.walk c.requires.closing c.requires.link c.requires.place
    c.requires.closes least.ensures.positive least.ensures.closing
    (λ k g l. subst
    (λ (ids : List Step). least.result ≤ get_or C (get_or (numbers ids) k 0) 0)
    c.as_slice.ensures.value (least.ensures.least k g (omega (
      arith,
      length-map w.steps.items (λ s. s.debt.0),
      ap length c.as_slice.ensures.value,
    )))) in
    record {
      cancelling = begins;
      start = refl;
      steps = c.requires.under_way.steps;
      cursors = refl;
      heads = refl;
      ranks = refl;
    }

-- the last step of the walk tells its debtor
last_step : (c : After-truncate) → IsStep c.args.net.now c.index-step.result.now
last_step c = last_is_step c.loop-walk.walk.steps.items c.requires.network c.requires.claims
    c.requires.under_way.told.sizes.marks c.truncate.ensures.items
    (omega (arith, c.len-last.ensures)) c.index-step.ensures
    (omega (arith, c.len.ensures, c.len-last.ensures)) c.loop-walk.invariant.cancelling
    c.loop-walk.invariant.steps

-- the last debt of the walk, which is lowered
last : (c : After-truncate) → IsLast c.args.net.now c.args.class c.least_claim-least.result
    c.loop-walk.claims c.index-step.result.now.debt.0
last c = step_last c.loop-walk.walk.steps.items c.requires.network c.requires.claims
    c.requires.under_way.told.sizes.marks c.truncate.ensures.items
    (omega (arith, c.len-last.ensures)) c.index-step.ensures
    (omega (arith, c.len.ensures, c.len-last.ensures)) c.loop-walk.invariant.cancelling

pub bounds-claims-step : goal.bounds-claims-step
bounds-claims-step c = (last (goal.at.bounds-claims-step c).After-truncate).in_claims

pub overflow_sub-claims-in-loop-walk : goal.overflow_sub-claims-in-loop-walk
overflow_sub-claims-in-loop-walk c =
    (last (goal.at.overflow_sub-claims-in-loop-walk c).After-truncate).enough

pub bounds-claims-step-in-loop-walk : goal.bounds-claims-step-in-loop-walk
bounds-claims-step-in-loop-walk c =
    (last (goal.at.bounds-claims-step-in-loop-walk c).After-truncate).in_claims

pub index_mut-requires : goal.index_mut-requires
index_mut-requires c =
    let known = (last (goal.at.index_mut-requires c).After-truncate).live.debt in
    omega (
      arith,
      last_step (goal.at.index_mut-requires c).After-truncate,
      (c.requires.network.each_debt _ known).debtor_known,
      c.loop-walk.invariant.cancelling.banks,
      c.requires.under_way.told.sizes.marks,
    )

pub loop-walk-preserved : goal.loop-walk-preserved
loop-walk-preserved c = record {
  cancelling = step_more c.loop-walk.walk.steps.items c.requires.network c.requires.claims
      c.requires.under_way.told.sizes.marks c.truncate.ensures.items
      (omega (arith, c.len-last.ensures)) c.index-step.ensures
      (omega (arith, c.len.ensures, c.len-last.ensures)) c.loop-walk.invariant.cancelling
      (last_step (goal.at.loop-walk-preserved c).After-truncate) c.least_claim-least.ensures.positive;
  start = c.loop-walk.invariant.start;
  steps = rw c.truncate.ensures.items
      (All-take (IsStep c.args.net.now) _ c.loop-walk.walk.steps.items c.loop-walk.invariant.steps);
  cursors = c.loop-walk.invariant.cursors;
  heads = c.loop-walk.invariant.heads;
  ranks = c.loop-walk.invariant.ranks;
}

pub returns-clause-start : goal.returns-clause-start
returns-clause-start c = c.loop-walk.invariant.start

pub returns-clause-less : goal.returns-clause-less
returns-clause-less c = c.loop-walk.invariant.cancelling.less

pub returns-clause-kept : goal.returns-clause-kept
returns-clause-kept c =
    cancelling_ends c.requires.claims c.loop-walk.invariant.cancelling
    (omega (arith, length-map c.loop-walk.walk.steps.items (λ s. s.debt.0), c.len.ensures))

pub returns-clause-under_way : goal.returns-clause-under_way
returns-clause-under_way c = record {
  walk = c.loop-walk.invariant.cancelling.walk;
  steps = c.loop-walk.invariant.steps;
  told = cancelled_told c.loop-walk.walk c.requires.under_way.told (returns-clause-kept c)
      c.loop-walk.invariant.cancelling.done c.loop-walk.invariant.cursors
      c.loop-walk.invariant.heads c.loop-walk.invariant.ranks;
}
