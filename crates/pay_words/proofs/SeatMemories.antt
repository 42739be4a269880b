-- What a seat has in memory of the values that are paid, after a raise, a handing out and a taking back.
use Rattle.std.proofs.lemmas.Grind.{common_steps}
use Rattle.std.proofs.Common.{◌≡◌, ℕ, ◌<◌, List, [], length, get_or, set, Bool, true, false, refl, sym, ap, ◌∙◌, subst, arith, length-set, get_or-set_same, get_or-set_other}
use Rattle.std.specs.Prelude.{◌%◌, slice_index, slice_index_or, ◌&&◌, ◌||◌, not}
use Rattle.std.proofs.lemmas.Bool.{eqb-true, eqb-false}
use Rattle.std.proofs.lemmas.List.{get_or_read}
use Rattle.std.proofs.Math.Nat.{mod-lt}
use Rattle.clr_net.specs.Limits.{IsNetwork}
use Rattle.clr_net.specs.Net.{Net, debtor_of}
use Rattle.pay_words.specs.Memory.{SeatMemory, HasAll, HasOwn, Tells, list_for, seat_memory}
use Rattle.clear_core.specs.Raised.{is_marked}
use Rattle.pay_words.specs.Tables.{chosen, tabled}
use Rattle.pay_words.specs.Holding.{is_of_worker}
use Rattle.pay_words.proofs.Marks.{both_marked, chosen_each, either_marked, marked_if}
use Rattle.pay_words.proofs.Tables.{tabled_at}

-- a list and what is paid, of which the same place changes
tells_set : (list paid : List ℕ) (x to y : ℕ) → x < length paid → Tells list paid y → Tells (set list x to) (set paid x to) y
tells_set list paid x to y lt t = grind (arith, common_steps, t.0, t.1)

-- the seat of a worker after a raise
pub own_raised : (net : Net) (banks : List Bool) (paid : List ℕ) (p : SeatMemory) (x to : ℕ) → x < length paid → HasOwn net banks paid p → HasOwn net banks (set paid x to) (record p { own = set p.own x to })
own_raised net banks paid p x to lt h =
    let tells = λ (y : ℕ) (l : y < length net.debts) (mine : is_marked banks (debtor_of net y) ≡ true). tells_set p.own paid x to y lt (h.tells y l mine) in
    assumption (tells, h)

module _ (net : Net) (banks : List Bool) (paid : List ℕ) (p : SeatMemory) (h : HasAll net banks paid p) (i : ℕ) where
  -- the new seat of the worker i, of which the master holds all banks
  pub own_handed : i < p.workers → ((b : ℕ) → b < length net.banks → is_of_worker p.workers i b ≡ true → is_marked banks b ≡ true)
      → HasOwn net (tabled (length net.banks) (is_of_worker p.workers i)) paid (seat_memory (slice_index_or p.lists i []) [] [] p.workers i)
  own_handed low all = record {
    no_lists = refl;
    worker = low;
    its_banks = λ b lt. tabled_at (length net.banks) (is_of_worker p.workers i) b false lt;
    tells = λ x lt mine.
        let b = debtor_of net x in
        let g = marked_if (length net.banks) (is_of_worker p.workers i) b mine in
        subst (λ (k : ℕ). Tells (slice_index_or p.lists k []) paid x) (eqb-true (b % p.workers) i g.1) (h.tells x lt (all b g.0 g.1));
  }

  -- and the master without them
  pub all_without : HasAll net (tabled (length net.banks) (λ b. is_marked banks b && not (is_of_worker p.workers i b))) paid (record p { lists = set p.lists i [] })
  all_without = record {
    lists = length-set p.lists i [] ∙ h.lists;
    debtors = h.debtors;
    tells = λ x lt mine.
        let b = debtor_of net x in
        let g = marked_if (length net.banks) (λ c. is_marked banks c && not (is_of_worker p.workers i c)) b mine in
        let both = both_marked (is_marked banks b) (is_of_worker p.workers i b) g.1 in
        subst (λ (l : List ℕ). Tells l paid x)
        (sym (get_or-set_other p.lists i (b % p.workers) [] [] (eqb-false (b % p.workers) i both.1))) (h.tells x lt both.0);
  }

-- the master with the list of a seat that it takes back
module _ (net : Net) (mine theirs : List Bool) (paid their_paid : List ℕ) (p q : SeatMemory) (network : IsNetwork net) (f : HasAll net mine paid p) (g : HasOwn net theirs their_paid q) (same : q.workers ≡ p.workers) where
  -- the master's memory with this list
  abbrev back : SeatMemory
  back = record p { lists = set p.lists q.worker q.own }

  -- the debts whose debtors come back
  abbrev owes : ℕ → Bool
  owes x = is_marked theirs (debtor_of net x)

  -- what is paid, on these debts as the seat shows it
  abbrev both : List ℕ
  both = chosen 0 (length net.debts) owes paid their_paid

  -- the debts that the seat pays are those of the banks of its worker
  its_worker : (x : ℕ) → x < length net.debts → is_of_worker p.workers q.worker (debtor_of net x) ≡ owes x
  its_worker x lt = ap (λ (w : ℕ). is_of_worker w q.worker (debtor_of net x)) (sym same) ∙ sym (g.its_banks (debtor_of net x) (network.each_debt x lt).debtor_known)

  -- with the list of the seat the master has what all its banks pay
  pub all_back : HasAll net (tabled (length net.banks) (λ b. is_marked mine b || is_marked theirs b)) both back
  all_back = record {
    lists = length-set p.lists q.worker q.own ∙ f.lists;
    debtors = f.debtors;
    tells = chosen_each 0 (length net.debts) owes paid their_paid
        (λ x m. is_marked (tabled (length net.banks) (λ b. is_marked mine b || is_marked theirs b)) (debtor_of net x) ≡ true
        → (x < length (list_for back (debtor_of net x))) × (slice_index (list_for back (debtor_of net x)) x ≡ m))
        (λ x lt out held. rw (get_or-set_other p.lists q.worker (debtor_of net x % p.workers) q.own []
        (eqb-false _ q.worker (its_worker x lt ∙ out)))
        (f.tells x lt (either_marked (length net.banks) mine theirs (debtor_of net x) held out)))
        (λ x lt e _. rw (
          eqb-true (debtor_of net x % p.workers) q.worker (its_worker x lt ∙ e),
          get_or-set_same p.lists q.worker q.own [] (omega (arith, g.worker, same, f.lists)),
        ) (g.tells x lt e));
  }

-- the master's list for a debt, found by the debt's debtor
module _ (net : Net) (banks : List Bool) (paid : List ℕ) (p : SeatMemory) (h : HasAll net banks paid p) (some' : 0 < p.workers) (x b : ℕ) (lt : x < length net.debts) (at : b ≡ get_or p.debtors x b) where
  -- there is a list for the worker of the bank
  pub list_found : b % p.workers < length p.lists
  list_found = omega (arith, mod-lt b some', h.lists)

  -- it has what is paid on the debt
  pub list_tells : is_marked banks (debtor_of net x) ≡ true → (l : List ℕ) → l ≡ get_or p.lists (b % p.workers) l → Tells l paid x
  list_tells held l e =
      let found = at ∙ ap (λ (ds : List ℕ). get_or ds x b) h.debtors ∙ tabled_at (length net.debts) (debtor_of net) x b lt in
      subst (λ (m : List ℕ). Tells m paid x)
      (sym (get_or_read p.lists (b % p.workers) l list_found e [] ∙ ap (list_for p) found)) (h.tells x lt held)
