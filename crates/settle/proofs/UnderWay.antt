-- A run on its way, round by round.
use Rattle.std.proofs.Common.{◌≡◌, ◌≢◌, ℕ, ◌+◌, ◌<◌, List, [], append-nil, sym, ap, subst, true}
use Rattle.bank_worker.specs.BankSets.{is_in}
use Rattle.bank_worker.specs.Offices.{OfficeView}
use Rattle.clr_net.specs.Amounts.{IsAtMost}
use Rattle.clr_net.specs.Limits.{IsNetwork}
use Rattle.clr_net.specs.Net.{Net}
use Rattle.clr_net.specs.declared.TheConstants.{MAX_BANKS}
use Rattle.clear_core.specs.Clearing.{least}
use Rattle.clear_core.specs.History.{Kept, ordered}
use Rattle.clear_core.specs.declared.event.Raise.{Raise}
use Rattle.pay_words.specs.Views.{BoardView, SeatView}
use Rattle.pay_words.specs.declared.view.Shown.{Shown}
use Rattle.raise_journal.specs.Gathered.{HasGrownBy, HasMerged}
use Rattle.settle.specs.Asks.{IsReady, IsRoundOn, MayBegin}
use Rattle.settle.specs.Between.{noted_in}
use Rattle.settle.specs.Calls.{OthersAreAtRest}
use Rattle.settle.specs.Drives.{IsDriven}
use Rattle.settle.specs.Offices.{AreAllOffices}
use Rattle.settle.specs.declared.plan.Plan.{Plan}
use Rattle.settle.specs.declared.state.RunState.{RunState}
use Rattle.settle.proofs.Calling.{all_called}
use Rattle.settle.proofs.Driving.{DrivenTo, driven_more, driven_none, driven_out}

-- where a run on this board, whose master showed s at first, has come to after so many rounds
pub record IsUnderWay (board : BoardView) (net : Net) (past : List Raise) (plan : Plan) (s : Shown) (master : SeatView) (state : RunState) (rounds visits : ℕ) : Type 0 where
  pub ready : IsReady board net plan master state
  pub called : OthersAreAtRest net state.called master.shows
  pub driven : DrivenTo net past plan s master.shows (noted_in state.journal.raises state.waiting.items) rounds visits

-- before the first round
pub way_begun : (board : BoardView) (net : Net) (past : List Raise) (plan : Plan) (master : SeatView) (state : RunState) (os : List OfficeView) → IsNetwork net → MayBegin board net past plan master os
    → IsAtMost master.shows.paid (least master.shows.net) → HasMerged [] state.journal.raises 0 past → state.waiting.items ≡ []
    → state.offices.items ≡ os → ((b : ℕ) → b < MAX_BANKS → is_in state.called b ≡ true)
    → IsUnderWay board net past plan master.shows master state 0 0
way_begun board net past plan master state os network begin below merged none_waits offices called =
    let s = master.shows in
    let j = state.journal.raises in
    let low = subst (λ (n : Net). IsAtMost s.paid (least n)) (ap (λ (u : Shown). u.net) begin.opened) below in
    let begun = subst (λ (w : List Kept). HasGrownBy [] (noted_in j w) past) (sym none_waits)
    (subst (λ (rs : List Raise). HasGrownBy [] rs past) (sym (append-nil j)) merged) in
    let driven = driven_none {net = net} {past = past} {plan = plan} network begin.opened low begun in
    record {
      ready = record {
        table_is = begin.table_is;
        between = driven.between;
        offices = subst (AreAllOffices net plan.workers) (sym offices) begin.offices_are;
      };
      called = all_called net state.called s network called;
      driven = driven;
    }

module _ {board : BoardView} {net : Net} {past : List Raise} {plan : Plan} {s : Shown} {master after : SeatView} {state left : RunState} {rounds visits units more : ℕ}
    (h : IsUnderWay board net past plan s master state rounds visits) (r : IsRoundOn board net plan units more master state after left) where
  -- after a round that raised something
  pub way_more : units ≢ 0 → IsUnderWay board net past plan s after left (rounds + 1) (visits + more)
  way_more some = record {
    ready = r.ready;
    called = r.called;
    driven = driven_more state.waiting.items h.driven r.ready.between r.round r.noted some;
  }

  -- after the last round, which raised nothing
  pub way_ended : units ≡ 0 → s.taken ≡ 0 → (j : Kept) → j.raises ≡ ordered (noted_in left.journal.raises left.waiting.items)
      → IsDriven net past plan s after.shows (record { journal = j; rounds = rounds + 1; visits = visits + more })
  way_ended none fresh j kept = driven_out state.waiting.items h.driven r.ready.between r.round r.noted none fresh j kept
