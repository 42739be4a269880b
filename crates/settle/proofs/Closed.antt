-- A round of all workers, once their seats were taken back.
use Rattle.std.proofs.Common.{◌≡◌, ℕ, ◌+◌, true, List, [], IfOk, Ok, Result, length, sum_by, sym, ap, ◌∙◌, subst, arith}
use Rattle.std.proofs.lemmas.List.{with_items_is}
use Rattle.std.specs.Global.{Vec}
use Rattle.std.specs.Vec.{with_items}
use Rattle.bank_worker.specs.Views.{WorkerView}
use Rattle.clear_core.specs.Clearing.{least}
use Rattle.clear_core.specs.declared.event.Raise.{Raise}
use Rattle.clr_net.specs.Amounts.{IsAtMost}
use Rattle.clr_net.specs.Limits.{IsNetwork}
use Rattle.clr_net.specs.Net.{Net}
use Rattle.clr_net.specs.declared.Mem.{Mem}
use Rattle.pay_words.specs.Views.{BoardView, IsOver, SeatView}
use Rattle.pay_words.specs.declared.view.Shown.{Shown}
use Rattle.raise_journal.specs.Gathered.{HasGrownBy, raises_of_all as all_of}
use Rattle.settle.specs.Asks.{AreTakenBack, IsReady, IsRoundOn, MayClose}
use Rattle.settle.specs.Between.{HaveGrownAlike, IsBetween, noted_in, opened_workers, without_first}
use Rattle.settle.specs.Drives.{IsPlan, IsRunOn}
use Rattle.settle.specs.Rounds.{AreRounded}
use Rattle.settle.specs.declared.plan.Plan.{Plan}
use Rattle.settle.specs.declared.state.RunState.{RunState}
use Rattle.settle.proofs.AllDown.{idle_between}
use Rattle.settle.proofs.Handed.{IsRest, first_rest, length-opened_workers}
use Rattle.settle.proofs.Rounded.{between_again, of_board, others_at_rest, round_is}
use Rattle.settle.proofs.Waiting.{noted_after}

-- the workers as they stand in their list after the round
pub all_back : (sweeps n : ℕ) (v : Vec WorkerView) (lent olds news : List WorkerView) → lent ≡ v.items → v.items ≡ olds → AreRounded sweeps n lent news
    → AreRounded sweeps n olds (with_items v news).items
all_back sweeps n v lent olds news e f h =
    subst (AreRounded sweeps n olds) (sym (with_items_is v news (omega (arith, h.as_many, ap length e, v.ok)))) (subst (λ os. AreRounded sweeps n os news) (e ∙ f) h)

-- so it is of a round that was answered, whichever call made it
pub back_from : (sweeps units : ℕ) (v now : Vec WorkerView) (lent olds news : List WorkerView) (made answer : Result ℕ Mem) → made ≡ Ok units → made ≡ answer
    → now ≡ with_items v news → lent ≡ v.items → v.items ≡ olds → IfOk answer (λ n. AreRounded sweeps n lent news) → AreRounded sweeps units olds now.items
back_from sweeps units v now lent olds news made answer ok is back e f h =
    rw back (all_back sweeps units v lent olds news e f (subst (λ r. IfOk r (λ n. AreRounded sweeps n lent news)) (sym is ∙ ok) h))

-- the workers made their rounds, by so many units. Raises that waited are noted, and no office is left
pub record HaveWorked (sweeps units : ℕ) (olds news : List WorkerView) (state after : RunState) : Type 0 where
  pub rounded : AreRounded sweeps units olds news
  pub grown : HasGrownBy state.journal.raises after.journal.raises (all_of state.waiting.items)
  pub none_waits : after.waiting.items ≡ []
  pub offices : after.offices.items ≡ []

module _ {board : BoardView} {net : Net} {plan : Plan} {master : SeatView} {state worked : RunState} {units : ℕ} {news : List WorkerView}
    (limits : IsPlan plan) (on_board : IsRunOn board net plan) (ready : IsReady board net plan master state)
    (done : HaveWorked plan.sweeps units (opened_workers plan.workers board.table master.shows plan.workers) news state worked) where
  -- each worker may give its seat back
  pub may_close : (m : SeatView) → m.table ≡ master.table → m.shows ≡ without_first plan.workers plan.workers master.shows → MayClose board news m worked
  may_close m table is =
      let w = plan.workers in
      let s = master.shows in
      let between = ready.between in
      let rest = subst (IsRest w s) (sym is) (first_rest w w s) in
      record {
        network = subst IsNetwork on_board.net_is between.network;
        at = (table ∙ ready.table_is, rest.net ∙ between.net_is ∙ on_board.net_is);
        is_the_master = rest.master ∙ between.master;
        as_many = done.rounded.as_many ∙ length-opened_workers w board.table s w ∙ on_board.workers_are;
        of_board = of_board board net s w plan.sweeps units news on_board.net_is on_board.workers_are limits.some_workers limits.few_sweeps between done.rounded;
        offices = done.offices;
        none_waits = done.none_waits;
      }

  -- and once they did, it was a round
  pub round_closed : (m t : SeatView) (left : RunState) (visits : ℕ) → m.shows ≡ without_first plan.workers plan.workers master.shows
      → t.table ≡ board.table → IsOver t.shows → AreTakenBack board news m.shows worked t.shows left
      → t.shows.taken ≡ m.shows.taken + visits → visits ≡ sum_by (λ (k : WorkerView). k.visits) news
      → IsAtMost t.shows.paid (least t.shows.net) → IsAtMost t.shows.sights (least t.shows.net)
      → IsRoundOn board net plan units visits master state t left
  round_closed m t left visits is table over all taken in_all paid_low sights_low =
      let rounded = done.rounded in
      let back = all.back in
      let w = plan.workers in
      let sweeps = plan.sweeps in
      let s = master.shows in
      let here = on_board.net_is in
      let workers = on_board.workers_are in
      let some = limits.some_workers in
      let few = limits.few_sweeps in
      let between = ready.between in
      let now = noted_in left.journal.raises left.waiting.items in
      let is_master = subst (λ (u : Shown). u.master ≡ true) (sym is) ((first_rest w w s).master ∙ between.master) in
      let again : IsBetween net t.shows = between_again board net s w sweeps units news here workers some few between rounded m.shows t.shows over back (back.master ∙ is_master) in
      record {
        idle = idle_between net t.shows again;
        ready = record { table_is = table; between = again; offices = rw (workers, here) all.offices };
        called = others_at_rest board net s w sweeps units news here workers some few between rounded m.shows t.shows over back left.called again (rw here all.called);
        round = round_is board net s w sweeps units news here workers some few between rounded m.shows t.shows over back visits is taken in_all all.raises paid_low sights_low;
        noted = subst (λ (rs : List Raise). HaveGrownAlike state.journal.raises state.waiting.items now rs t.shows.raises)
            (ap (λ (u : Shown). u.raises) is ∙ (first_rest w w s).raises)
            (noted_after state.journal.raises worked.journal.raises now m.shows.raises t.shows.raises state.waiting.items done.grown all.noted);
      }
