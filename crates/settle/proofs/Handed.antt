-- The master while it hands seats to the workers, and the workers that it makes.
use Rattle.std.proofs.Common.{◌≡◌, ℕ, zero, suc, ◌+◌, ◌<◌, ◌≤◌, false, List, length, inl, inr, refl, sym, ap, ◌∙◌, subst, arith, eqb-true}
use Rattle.pay_words.specs.Views.{Place}
use Rattle.std.proofs.lemmas.Bool.{ne_eqb}
use Rattle.std.specs.Prelude.{◌%◌}
use Rattle.std.proofs.lemmas.List.Elements.{All-from_get_or}
use Rattle.clr_net.specs.Net.{Net}
use Rattle.bank_desk.specs.Desks.{desk_of, BankView}
use Rattle.pay_words.specs.declared.view.Shown.{Shown}
use Rattle.pay_words.specs.Views.{BoardView, OwesNoRing, HoldsAll, HoldsAllOf, handed, holds, is_of_worker}
use Rattle.pay_words.proofs.Handing.{holds_of_all, holds_of_others}
use Rattle.pay_words.proofs.Tables.{tabled_at, length-tabled}
use Rattle.bank_worker.specs.Called.{IsAtRest}
use Rattle.bank_worker.specs.Views.{Divides, desk_at, desks_held}
use Rattle.bank_worker.specs.Ready.{IsReadyWorker}
use Rattle.bank_worker.proofs.Manned.{desk_is}
use Rattle.settle.specs.Between.{IsBetween, opened_worker, opened_workers, without_first}
use Rattle.settle.specs.Calls.{AllCalledOrAtRest, AreApart, OthersAreAtRest}
use Rattle.settle.specs.Rounds.{AreReadyWorkers, no_worker, worker_at}

-- the master that handed out n seats shows what it showed, but for its banks and seats
pub record IsRest (n : ℕ) (s t : Shown) : Type 0 where
  pub net : t.net ≡ s.net
  pub master : t.master ≡ s.master
  pub seats : t.seats ≡ s.seats + n
  pub raises : t.raises ≡ s.raises
  pub taken : t.taken ≡ s.taken

-- so it is after the first n seats
pub first_rest : (w n : ℕ) (s : Shown) → IsRest n s (without_first w n s)
first_rest w zero s = record { net = refl; master = refl; seats = omega arith; raises = refl; taken = refl }
first_rest w (suc n) s = let h = first_rest w n s in record { net = h.net; master = h.master; seats = omega (arith, h.seats); raises = h.raises; taken = h.taken }

-- what a worker is handed does not depend on what others were handed before
pub first_handed : (w n i : ℕ) (s : Shown) → handed w i (without_first w n s) ≡ handed w i s
first_handed w zero i s = refl
first_handed w (suc n) i s = first_handed w n i s

-- a worker that was handed nothing yet finds all its banks at the master
pub first_holds : (w n j : ℕ) (s : Shown) → HoldsAll s → n ≤ j → HoldsAllOf w j (without_first w n s)
first_holds w zero j s all l = holds_of_all w j s all
first_holds w (suc n) j s all l = holds_of_others w n j (without_first w n s) (λ e. absurd (omega (arith, e, l))) (first_holds w n j s all (omega arith))

-- the banks of a worker's seat
pub handed_holds : (net : Net) (w i : ℕ) (s : Shown) (b : ℕ) → s.net ≡ net → b < length net.banks → holds (handed w i s) b ≡ is_of_worker w i b
handed_holds net w i s b here lt = tabled_at (length s.net.banks) (is_of_worker w i) b false (omega (arith, ap (λ (m : Net). length m.banks) here))

-- a worker that is made between two rounds may make a round
pub handed_quiet : (net : Net) (w i : ℕ) (s : Shown) → IsBetween net s → OwesNoRing (handed w i s)
handed_quiet net w i s h x lt held = h.no_rings x (omega (arith, lt, ap (λ (m : Net). length m.debts) h.net_is))

-- a desk of that worker is of one of its banks
pub record IsHanded (net : Net) (w i : ℕ) (d : BankView) : Type 0 where
  pub known : d ≡ desk_of net d.bank
  pub bank : d.bank < length net.banks
  pub mine : d.bank % w ≡ i

-- so each desk of a handed seat is
pub handed_desk : (net : Net) (w i : ℕ) (s : Shown) (k : ℕ) → IsBetween net s → k < length (desks_held (handed w i s)) → IsHanded net w i (desk_at (desks_held (handed w i s)) k)
handed_desk net w i s k h lk =
    let b = (desk_at (desks_held (handed w i s)) k).bank in
    let f = desk_is (handed w i s) (desks_held (handed w i s)) k refl lk in
    let bank : b < length net.banks = omega (arith, f.bank, ap (λ (m : Net). length m.banks) h.net_is) in
    record { known = f.known ∙ ap (λ (m : Net). desk_of m b) h.net_is; bank = bank; mine = eqb-true (b % w) i (sym (handed_holds net w i s b h.net_is bank) ∙ f.held) }

-- the worker in a place is the one of that number
pub opened_worker_at : (w : ℕ) (table : Place) (s : Shown) (n i : ℕ) → i < n → worker_at (opened_workers w table s n) i ≡ opened_worker w table s i
opened_worker_at w table s n i lt = tabled_at n (opened_worker w table s) i no_worker lt

-- there are as many as were asked for
pub length-opened_workers : (w : ℕ) (table : Place) (s : Shown) (n : ℕ) → length (opened_workers w table s n) ≡ n
length-opened_workers w table s n = length-tabled n (opened_worker w table s)

-- each is ready for its round
pub opened_workers_ready : (board : BoardView) (net : Net) (w : ℕ) (s : Shown) (n : ℕ) → net ≡ board.net → IsBetween net s → AreReadyWorkers board (opened_workers w board.table s n)
opened_workers_ready board net w s n here h = All-from_get_or (IsReadyWorker board) (opened_workers w board.table s n) no_worker (λ i li.
    let lt : i < n = omega (arith, li, length-opened_workers w board.table s n) in
    subst (IsReadyWorker board) (sym (opened_worker_at w board.table s n i lt)) (record {
      at = (refl, h.net_is ∙ here);
      visits = omega arith;
      no_rings = handed_quiet net w i s h;
      calm = λ b lb held x lt owed. h.calm x (rw (h.net_is) at lt);
      rest = λ k lk.
          let f = handed_desk net w i s k h lk in
          elim (h.rest _ f.bank) [ inl e ↦ inl e | inr e ↦ inr (subst (Divides s) (sym f.known) e) ];
    }))

-- a worker's banks are called, or they are at rest as the master shows them
pub opened_workers_called : (net : Net) (w : ℕ) (table : Place) (s : Shown) (called : List ℕ) → IsBetween net s → OthersAreAtRest net called s
    → AllCalledOrAtRest called (opened_workers w table s w)
opened_workers_called net w table s called h rest i li =
    rw (opened_worker_at w table s w i (omega (arith, li, length-opened_workers w table s w))) (λ k lk out.
    let f = handed_desk net w i s k h lk in
    assumption (subst (IsAtRest s) (sym f.known) (rest _ f.bank out)))

-- no worker is handed a bank of another
pub opened_workers_apart : (net : Net) (w : ℕ) (table : Place) (s : Shown) → IsBetween net s → AreApart (opened_workers w table s w)
opened_workers_apart net w table s h i j li lj ne k =
    let size = length-opened_workers w table s w in
    rw (opened_worker_at w table s w j (omega (arith, lj, size))) (λ lk.
    let f = handed_desk net w j s k h lk in
    rw (opened_worker_at w table s w i (omega (arith, li, size)), handed_holds net w i s (desk_at (desks_held (handed w j s)) k).bank h.net_is f.bank) (ne_eqb _ i (λ e. ne (sym e ∙ f.mine))))
