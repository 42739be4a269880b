use Rattle.std.proofs.Common.{◌≡◌, ◌+◌, ◌-◌, [], sym, ap, ◌∙◌, subst, arith, add-one}
use Rattle.pay_words.specs.declared.view.Shown.{Shown}
use Rattle.pay_words.specs.Views.{OwesNoRing, handed, holds}
use Rattle.bank_worker.specs.Views.{desks_held}
use Rattle.settle.specs.Between.{opened_worker}
use Rattle.settle.proofs.Handed.{first_handed, first_holds, first_rest, handed_holds, handed_quiet}
use Rattle.settle.specs.Offices.{AreOffices, Serves}
use Rattle.settle.proofs.OfficeLists.{office_taken, serves_seat}
use Rattle.settle.proofs.teams.open_workers.Goals as goal
use Rattle.settle.proofs.teams.open_workers.Given.{Over}
use Rattle.settle.proofs.teams.open_workers.Goals.{In-Some}
use Rattle.std.proofs.lemmas.List.FromFn.{map-range_with_len_more}
use Rattle.std.proofs.lemmas.List.{nil_from_length}

pub hand-requires : goal.hand-requires
hand-requires g c =
    let s = c.args.master.now.shows in
    let w = c.args.run.now.engine.now.plan.workers in
    let n = c.loop-number.number in
    let inv = c.loop-number.invariant in
    let b = c.requires.between in
    record {
      master = (inv.table ∙ c.requires.table, inv.net ∙ b.net_is ∙ c.args.run.now.on_board.net_is);
      is_the_master = ap (λ (u : Shown). u.master) inv.rest ∙ (first_rest w n s).master ∙ b.master;
      worker = omega (arith, c.args.run.now.on_board.workers_are);
      banks = rw (← c.args.run.now.on_board.workers_are, inv.rest) (first_holds w n n s b.holds_all (omega arith));
      seats = omega (arith, ap (λ (u : Shown). u.seats) inv.rest, (first_rest w n s).seats, c.requires.seats);
    }

-- what the next worker is handed, and its office
shown : (g : Over) (c : In-Some g) → c.in_ok-seat.seat.shows ≡ handed c.args.run.now.engine.now.plan.workers c.loop-number.number c.args.master.now.shows
shown g c = rw (c.in_ok-seat.ensures.seat.1, ← c.args.run.now.on_board.workers_are, c.loop-number.invariant.rest)
    (first_handed c.args.run.now.engine.now.plan.workers c.loop-number.number c.loop-number.number c.args.master.now.shows)

taken : (g : Over) (c : In-Some g) → AreOffices c.args.run.now.net.now c.args.run.now.engine.now.plan.workers (c.args.run.now.engine.now.plan.workers - (c.loop-number.number + 1)) c.pop.new.self.items
    × Serves c.args.run.now.net.now c.args.run.now.engine.now.plan.workers c.loop-number.number c.in-Some.office
taken g c =
    let w = c.args.run.now.engine.now.plan.workers in
    let n = c.loop-number.number in
    let count : w - n ≡ w - (n + 1) + 1 = omega arith in
    office_taken c.args.run.now.net.now w (w - (n + 1)) n c.loop-number.offices.items c.pop.new.self.items c.in-Some.office
    (subst (λ m. AreOffices c.args.run.now.net.now w m c.loop-number.offices.items) count c.loop-number.invariant.offices) c.in-Some.ensures.items (omega arith)

pub with-requires : goal.with-requires
with-requires g c =
    let net = c.args.run.now.net.now in
    let w = c.args.run.now.engine.now.plan.workers in
    let n = c.loop-number.number in
    let b = c.requires.between in
    let at = (goal.at.with-requires g c).In-Some in
    let here = shown g at in
    record {
      office = serves_seat net c.in_ok-seat.seat.shows w n c.in-Some.office (sym b.net_is ∙ sym (ap (λ (u : Shown). u.net) here))
          (λ k lt. ap (λ (u : Shown). holds u k) here ∙ handed_holds net w n c.args.master.now.shows k b.net_is lt) (taken g at).1;
      not_the_master = ap (λ (u : Shown). u.master) here;
      no_raise = ap (λ (u : Shown). u.raises) here;
      no_rings = subst OwesNoRing (sym here) (handed_quiet net w n c.args.master.now.shows b);
    }

pub loop-number-preserved : goal.loop-number-preserved
loop-number-preserved g c =
    let s = c.args.master.now.shows in
    let w = c.args.run.now.engine.now.plan.workers in
    let n = c.loop-number.number in
    let inv = c.loop-number.invariant in
    let seat = c.in_ok-seat.seat in
    let table = c.args.run.now.board.now.table in
    let at = (goal.at.loop-number-preserved g c).In-Some in
    let made : c.with.result ≡ opened_worker w table s n = rw (c.with.ensures) (λ i. record {
      seat = record { table = c.in_ok-seat.ensures.seat.0 i; shows = (shown g at) i };
      desks = desks_held ((shown g at) i);
      worker = (taken g at).1.worker i;
      visits = 0;
      journal = [];
    }) in
    record {
      table = c.hand.ensures.table ∙ inv.table;
      net = ap (λ (u : Shown). u.net) c.in_ok-seat.ensures.rest ∙ inv.net;
      rest = rw (c.in_ok-seat.ensures.rest, ← c.args.run.now.on_board.workers_are, inv.rest, add-one n);
      offices = (taken g at).0;
      opened =
          c.in_ok-push.ensures.items
          ∙ rw (made, inv.opened) (sym (map-range_with_len_more (opened_worker w table s) 0 n n (omega arith)));
    }

pub returns-clause-offices : goal.returns-clause-offices
returns-clause-offices g c = nil_from_length _ (omega (arith, c.loop-number.invariant.offices.as_many))
