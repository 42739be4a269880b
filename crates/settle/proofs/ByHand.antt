-- A round whose seats a caller hands out and takes back.
use Rattle.std.proofs.Common.{◌≡◌, ℕ, zero, suc, ◌+◌, ◌-◌, ◌≤◌, true, false, List, length, inl, refl, ◌∙◌, subst, arith}
use Rattle.std.proofs.lemmas.List.{get_or-replicate}
use Rattle.clr_net.specs.Limits.{IsNetwork}
use Rattle.clr_net.specs.Net.{Net}
use Rattle.clear_core.specs.declared.event.Raise.{Raise}
use Rattle.bank_worker.specs.Views.{WorkerView}
use Rattle.pay_words.specs.declared.view.Shown.{Shown}
use Rattle.pay_words.specs.Traces.{last_payment, start_of}
use Rattle.pay_words.specs.Views.{BoardView, IsOver, opening}
use Rattle.pay_words.proofs.Tables.{length-tabled}
use Rattle.settle.specs.Between.{AreOfBoard, IsBack, IsBetween, opened_workers, without_first}
use Rattle.settle.specs.ByHand.{after_round, with_last}
use Rattle.settle.specs.Drives.{IsPlan}
use Rattle.settle.specs.Rounds.{AreRounded, worker_at}
use Rattle.settle.specs.declared.plan.Plan.{Plan}
use Rattle.settle.proofs.Handed.{first_rest, length-opened_workers}
use Rattle.settle.proofs.Returned.{back_more, back_none, known_banks}
use Rattle.settle.proofs.Rounded.{between_again, of_board}
use Rattle.pay_words.proofs.Lengths.{over_without, over_rejoined, over_opening}

-- the lists of a seat keep their lengths while seats are handed out and taken back
over_first : (w n : ℕ) (s : Shown) → IsOver s → IsOver (without_first w n s)
over_first w zero s o = o
over_first w (suc n) s o = over_without w n (without_first w n s) (over_first w n s o)

-- so it is once the last seat is taken back
over_last : (ws : List WorkerView) (n k : ℕ) (s : Shown) → IsOver s → IsOver (with_last ws n k s)
over_last ws n zero s o = o
over_last ws n (suc k) s o = let cur = with_last ws n k s in over_rejoined cur.net cur (worker_at ws (n - suc k)).seat.shows refl

-- the opening of a board is a state between two rounds
pub opened_stands : (net : Net) (past : List Raise) → IsNetwork net → IsBetween net (opening net (start_of net past))
opened_stands net past network = record {
  network = network;
  net_is = refl;
  master = refl;
  over = over_opening net (start_of net past) (length-tabled (length net.debts) (λ x. last_payment x past));
  holds_all = λ b lb. get_or-replicate (length net.banks) b true false lb;
  no_rings = λ x lx. get_or-replicate (length net.debts) x false false lx;
  calm = λ x lx. get_or-replicate (length net.debts) x false false lx;
  rest = λ b lb. inl (get_or-replicate (length net.banks) b true false lb);
  floor = λ x lx. refl;
}

-- the seats of the last k workers are back
back_last : (board : BoardView) (w : ℕ) (m : Shown) (ws : List WorkerView) → length ws ≡ w → m.net ≡ board.net → IsNetwork board.net → AreOfBoard board ws
    → (k : ℕ) → k ≤ w → IsBack board.table.workers board.net m ws (with_last ws w k m) (w - k)
back_last board w m ws as_many here network seated zero le =
    let e : length ws ≡ w - 0 = omega (arith, as_many) in
    subst (IsBack board.table.workers board.net m ws m) e (back_none board.table.workers board.net m ws here)
back_last board w m ws as_many here network seated (suc k) le =
    let i = w - suc k in
    let next : w - k ≡ i + 1 = omega (arith, le) in
    let cur = with_last ws w k m in
    let before = subst (IsBack board.table.workers board.net m ws cur) next (back_last board w m ws as_many here network seated k (omega (arith, le))) in
    back_more board m cur ws i (seated i (omega (arith, as_many, le))) before (known_banks board.net network)

-- after a round of all workers, once all seats are back, the board stands between two rounds again
pub stands_again : (board : BoardView) (net : Net) (plan : Plan) (units : ℕ) (s : Shown) (ws : List WorkerView) → net ≡ board.net → plan.workers ≡ board.table.workers → IsPlan plan → IsBetween net s
    → AreRounded plan.sweeps units (opened_workers plan.workers board.table s plan.workers) ws → IsBetween net (after_round plan.workers ws s)
stands_again board net plan units s ws here workers limits between rounded =
    let w = plan.workers in
    let m = without_first w w s in
    let as_many : length ws ≡ w = rounded.as_many ∙ length-opened_workers w board.table s w in
    let seated = of_board board net s w plan.sweeps units ws here workers limits.some_workers limits.few_sweeps between rounded in
    let net_is : m.net ≡ board.net = (first_rest w w s).net ∙ between.net_is ∙ here in
    let network : IsNetwork board.net = subst IsNetwork here between.network in
    let back = back_last board w m ws as_many net_is network seated w (omega arith) in
    let t = with_last ws w w m in
    let all_back : IsBack board.table.workers board.net m ws t 0 = subst (IsBack board.table.workers board.net m ws t) (omega arith) back in
    between_again board net s w plan.sweeps units ws here workers limits.some_workers limits.few_sweeps between rounded m t (over_last ws w w m (over_first w w s between.over)) all_back
    (all_back.master ∙ (first_rest w w s).master ∙ between.master)
