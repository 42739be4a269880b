-- The workers of a round, and what the master is once their seats are back.
use Rattle.std.proofs.Common.{◌≡◌, ℕ, ◌<◌, ◌≤◌, true, false, List, length, inr, refl, sym, ap, ◌∙◌, subst, arith, eq-eqb}
use Rattle.std.specs.Prelude.{◌%◌}
use Rattle.clr_net.specs.Limits.{IsNetwork}
use Rattle.clr_net.specs.Net.{Net, creditor_of, debtor_of}
use Rattle.bank_worker.specs.Views.{WorkerView}
use Rattle.pay_words.specs.declared.view.Shown.{Shown}
use Rattle.pay_words.specs.Views.{HoldsAll, Place, holds, is_marked}
use Rattle.settle.specs.Bells.{IsIdle}
use Rattle.settle.specs.Between.{IsBack, IsRoundOf, opened_worker, opened_workers, without_first}
use Rattle.settle.specs.Rounds.{AreRounded, MadeRound, worker_at}
use Rattle.settle.specs.declared.plan.Plan.{Plan}
use Rattle.settle.proofs.Handed.{handed_holds, length-opened_workers, opened_worker_at}

module _ (net : Net) (table : Place) (s : Shown) (w sweeps n : ℕ) (news : List WorkerView) (some : 1 ≤ w) (net_is : s.net ≡ net)
    (rounded : AreRounded sweeps n (opened_workers w table s w) news) where
  -- as many workers come back as went
  pub as_many : length news ≡ w
  as_many = rounded.as_many ∙ length-opened_workers w table s w

  -- each has made its round
  pub made_round : (i : ℕ) → i < w → MadeRound sweeps (opened_worker w table s i) (worker_at news i)
  made_round i lt = subst (λ (o : WorkerView). MadeRound sweeps o (worker_at news i)) (opened_worker_at w table s w i lt)
      (rounded.each i (omega (arith, lt, length-opened_workers w table s w)))

  -- each shows the same network
  pub net_of : (i : ℕ) → i < w → (worker_at news i).seat.shows.net ≡ net
  net_of i lt = (made_round i lt).same.seat.net ∙ net_is

  -- each bank is of one of the workers
  pub worker_of : (b : ℕ) → b % w < w
  worker_of b = omega arith

  -- whose seat holds it
  pub holds_it : (b : ℕ) → b < length net.banks → holds (worker_at news (b % w)).seat.shows b ≡ true
  holds_it b lb = rw ((made_round (b % w) (worker_of b)).same.seat.banks)
      (handed_holds net w (b % w) s b net_is lb ∙ eq-eqb (b % w) (b % w) refl)

  -- once all seats are back
  module _ (m t : Shown) (network : IsNetwork net) (back : IsBack w net m news t 0) where
    -- the worker of a bank is among those that came back
    there : (b : ℕ) → b % w < length news
    there b = omega (arith, as_many, worker_of b)

    -- the master holds every bank
    pub all_held : HoldsAll t
    all_held b lb = back.held b (rw (back.net_is) at lb) (omega arith) (there b)

    -- no ring is owed
    pub no_ring_left : (x : ℕ) → x < length net.debts → is_marked t.owes_ring x ≡ false
    no_ring_left x lx =
        let b = debtor_of net x in
        let lb = (network.each_debt x lx).debtor_known in
        let same = net_of (b % w) (worker_of b) in
        back.rings x lx (omega arith) (there b)
        ∙ (made_round (b % w) (worker_of b)).rounded.gone.no_rings x (rw same lx) (rw same (holds_it b lb))

    -- and no look is due
    pub none_pending : (x : ℕ) → x < length net.debts → is_marked t.pending x ≡ false
    none_pending x lx =
        let b = creditor_of net x in
        let lb = (network.each_debt x lx).creditor_known in
        let same = net_of (b % w) (worker_of b) in
        back.pending x lx (omega arith) (there b)
        ∙ (made_round (b % w) (worker_of b)).rounded.gone.calm b (rw same lb) (holds_it b lb) x (rw same lx) (rw same refl)

-- the master is idle once a round was joined
pub idle_after : (net : Net) (plan : Plan) (units visits : ℕ) (s t : Shown) → IsNetwork net → 1 ≤ plan.workers
    → IsRoundOf net plan units visits s t → IsIdle net t
idle_after net plan units visits s t network some round =
    let w = plan.workers in
    let v = round.by_visits in
    let net_is : s.net ≡ net = sym round.grown.net ∙ v.back.net_is in
    let m = without_first w w s in
    record {
      net_is = v.back.net_is;
      holds_all = all_held net v.table s w plan.sweeps units v.workers some net_is v.rounded m t network v.back;
      no_rings = λ x lx held. no_ring_left net v.table s w plan.sweeps units v.workers some net_is v.rounded m t network v.back x
          (omega (arith, lx, ap (λ (k : Net). length k.debts) v.back.net_is));
      calm = none_pending net v.table s w plan.sweeps units v.workers some net_is v.rounded m t network v.back;
      rest = λ b lb. inr (round.divide b lb);
    }
