use Rattle.std.proofs.Math.Seq.{drop-length}
use Rattle.std.proofs.Common.{append-nil, ◌≡◌, ◌+◌, ◌-◌, ◌≤◌, ◌++◌, drop, length, refl, sym, ap, ◌∙◌, arith, rules, sum_by}
use Rattle.std.proofs.lemmas.List.Sums.{sum_by_push}
use Rattle.pay_words.specs.declared.view.Shown.{Shown}
use Rattle.pay_words.specs.Views.{rejoined}
use Rattle.bank_worker.specs.Views.{WorkerView}
use Rattle.settle.specs.Between.{noted_in, raised_by_all}
use Rattle.settle.specs.Rounds.{worker_at}
use Rattle.settle.proofs.Calling.{called_from}
use Rattle.settle.proofs.OfficeLists.{held_by, no_office_yet, office_more, seat_serves}
use Rattle.settle.proofs.Returned.{IsLast, back_more, back_none, grown_more, known_banks, last_of, raises_more}
use Rattle.settle.proofs.Waiting.{noted_first, not_shorter}
use Rattle.settle.proofs.teams.close_workers.Goals as goal
use Rattle.settle.proofs.teams.close_workers.Given.{Over}
use Rattle.settle.proofs.teams.close_workers.Goals.{In-Some}

-- the worker whose seat comes back
last : (g : Over) (c : In-Some g) → IsLast c.args.run.now.board.now c.args.workers.items c.loop-worker.workers.items c.pop.new.self.items c.in-Some.worker
last g c = last_of c.args.run.now.board.now c.args.workers.items c.loop-worker.workers.items c.pop.new.self.items c.in-Some.worker c.requires.of_board c.loop-worker.invariant.left c.in-Some.ensures.items

pub overflow_add-visits : goal.overflow_add-visits
overflow_add-visits g c =
    let run = c.args.run.now in
    let h = last g (goal.at.overflow_add-visits g c).In-Some in
    record { fits = omega (arith, h.more, h.left.few, h.own.few_visits, c.visits-visits.ensures, c.loop-worker.invariant.low, c.requires.as_many, run.engine.now.limits.few_workers, run.on_board.workers_are) }

pub take_back-requires : goal.take_back-requires
take_back-requires g c =
    let own = (last g (goal.at.take_back-requires g c).In-Some).own in
    let inv = c.loop-worker.invariant in
    let seat = c.leave-seat.ensures.seat in
    record {
      master = (inv.table ∙ c.requires.at.0, inv.back.net_is);
      is_the_master = inv.back.master ∙ c.requires.is_the_master;
      seat = (ap (λ s. s.table) seat ∙ own.at.0, ap (λ s. s.shows.net) seat ∙ own.at.1);
      not_the_master = ap (λ s. s.shows.master) seat ∙ own.not_the_master;
      rings = rw seat own.no_rings;
    }

pub loop-worker-init : goal.loop-worker-init
loop-worker-init g c = record {
  table = refl;
  back = back_none c.args.run.now.board.now.table.workers c.args.run.now.board.now.net c.args.master.now.shows c.args.workers.items c.requires.at.1;
  left = record { few = omega arith; same = λ i lt. refl };
  offices = no_office_yet c.args.run.now.board.now.net c.args.run.now.board.now.table.workers (c.args.run.now.board.now.table.workers - length c.args.workers.items) c.args.state.now.offices.items
      (omega (arith, c.requires.as_many)) c.requires.offices;
  noted = noted_first c.args.state.now.journal.raises c.args.master.now.shows.raises c.args.state.now.waiting.items c.requires.none_waits;
  none_waits = λ _. c.requires.none_waits;
  called = λ i le li. absurd (omega (arith, le, li));
  visits = omega arith;
  sum = omega arith;
  made = sym (ap (λ ws. c.args.master.now.shows.raises ++ raised_by_all ws) (drop-length c.args.workers.items) ∙ append-nil c.args.master.now.shows.raises);
  low = omega arith;
}

pub note-requires-clause-place : goal.note-requires-clause-place
note-requires-clause-place g c turn =
    let inv = c.loop-worker.invariant in
    omega (
      arith,
      ap length c.as_slice-from.ensures,
      not_shorter c.args.state.now.journal.raises c.loop-worker.state.journal.raises inv.noted.0 c.loop-worker.state.waiting.items inv.noted.1 (inv.none_waits turn),
    )

pub loop-worker-preserved : goal.loop-worker-preserved
loop-worker-preserved g c =
    let ws = c.args.workers.items in
    let rest = c.pop.new.self.items in
    let w = c.in-Some.worker in
    let s = c.args.master.now.shows in
    let m = c.loop-worker.master.shows in
    let n = length rest in
    let net = c.args.run.now.board.now.net in
    let k = c.args.run.now.board.now.table.workers in
    let inv = c.loop-worker.invariant in
    let is = c.in-Some.ensures.items in
    let h = last g (goal.at.loop-worker-preserved g c).In-Some in
    let seat = c.leave-seat.ensures.seat in
    let shown : c.take_back.new.master.shows ≡ rejoined m (worker_at ws n).seat.shows =
    c.take_back.ensures.rejoined ∙ ap (rejoined m) (ap (λ s. s.shows) seat ∙ ap (λ (k : WorkerView). k.seat.shows) h.is) in
    let back = back_more c.args.run.now.board.now s m ws n (rw (h.is) at h.own) (rw (h.more) at inv.back) (known_banks net c.requires.network) in
    let made : c.leave-seat.result.1.raises ≡ (worker_at ws n).seat.shows.raises = c.leave-seat.ensures.raises_of_seat ∙ ap (λ s. s.shows.raises) seat ∙ ap (λ (k : WorkerView). k.seat.shows.raises) h.is in
    record {
      table = c.take_back.ensures.table ∙ inv.table;
      back = rw shown back;
      left = h.left;
      offices =
          let room : n + 1 ≤ k = omega (arith, h.more, inv.left.few, c.requires.as_many) in
          let count : k - n ≡ k - (n + 1) + 1 = omega arith in
          let serves = seat_serves net w.seat.shows k n c.leave-seat.result.2 (sym h.own.at.1) (held_by c.args.run.now.board.now n w h.own)
          c.leave-seat.ensures.office (c.leave-seat.ensures.worker ∙ h.own.worker) in
          rw (c.in_ok-push.ensures.items, c.keep.ensures, count)
          (office_more net k (k - (n + 1)) n c.loop-worker.state.offices.items c.leave-seat.result.2 (rw (h.more) at inv.offices) (omega arith) serves);
      noted = grown_more c.args.state.now.journal.raises (noted_in c.loop-worker.state.journal.raises c.loop-worker.state.waiting.items)
          (noted_in c.note.new.journal.raises c.note.new.waiting.items) s.raises m.raises c.take_back.new.master.shows.raises (worker_at ws n).seat.shows.raises
          inv.noted (rw (made, ap length c.as_slice-from.ensures) at c.in_ok-left.ensures.noted) (ap (λ (u : Shown). u.raises) shown);
      none_waits = c.in_ok-left.ensures.none_waits;
      called = called_from net c.loop-worker.state.called c.call_creditors.new.called ws n w.journal
          (rw (h.more) at inv.called) c.call_creditors.ensures.kept
          (sym c.leave-seat.ensures.journal ∙ c.leave-seat.ensures.raises_of_seat ∙ ap (λ s. s.shows.raises) seat ∙ ap (λ (k : WorkerView). k.seat.shows.raises) h.is)
          (rw (h.own.at.1) at c.call_creditors.ensures.creditors);
      visits = omega (arith, ap (λ (u : Shown). u.taken) shown, inv.visits, c.visits-visits.ensures, h.own.by_bells, ap (λ (k : WorkerView). k.seat.shows.taken) h.is);
      sum = omega (arith, inv.sum, ap (λ ks. sum_by (λ (k : WorkerView). k.visits) ks) is, sum_by_push (λ (k : WorkerView). k.visits) rest w, c.visits-visits.ensures);
      made = raises_more s m c.take_back.new.master.shows ws n (length c.loop-worker.workers.items) h.more (omega (arith, h.more, inv.left.few)) inv.made shown;
      low = omega (arith, h.more, inv.low, c.visits-visits.ensures, h.own.few_visits);
    }

pub returns-clause-back : goal.returns-clause-back
returns-clause-back g c =
    let ws = c.args.workers.items in
    let k = c.args.run.now.board.now.table.workers in
    let inv = c.loop-worker.invariant in
    let none : length c.loop-worker.workers.items ≡ 0 = search rules in
    let all : k - length c.loop-worker.workers.items ≡ k = omega (arith, none) in
    record {
      back = rw none at inv.back;
      raises = inv.made ∙ ap (λ n. c.args.master.now.shows.raises ++ raised_by_all (drop n ws)) none;
      noted = inv.noted;
      called = λ i le li. inv.called i (omega (arith, none)) li;
      offices = rw all at inv.offices;
    }
