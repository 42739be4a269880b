-- The first state of a board meets its rule.
use Rattle.pay_words.proofs.Pasts.{values_paid, at_first, over_first}
use Rattle.pay_words.proofs.Views.{each_longer}
use Rattle.pay_words.proofs.Seats.{at_master}
use Rattle.std.proofs.Common.{◌≡◌, ℕ, zero, suc, ◌<◌, ◌≤◌, max, List, [], ◌∷◌, ◌++◌, length, map, get_or, true, false, refl, sym, ap, ◌∙◌, subst, arith, le_refl, le_trans, le_of_eq, zero-le, replicate}
use Rattle.std.specs.Prelude.{◌%◌, slice_index}
use Rattle.std.proofs.Math.Nat.{mod-lt}
use Rattle.std.proofs.lemmas.List.{get_or-replicate, length-replicate, append-nil}
use mathlib.Core.Option.{some-ne-none}
use Rattle.clr_net.specs.Amounts.{IsAtMost}
use Rattle.clr_net.specs.Limits.{IsNetwork}
use Rattle.clr_net.specs.Net.{Net, debtor_of, debt_numbers}
use Rattle.clear_core.specs.Clearing.{least}
use Rattle.clear_core.specs.declared.event.Raise.{Raise}
use Rattle.pay_words.specs.declared.payment.TheConstants.{STAMP}
use Rattle.pay_words.specs.declared.origin.Origin.{Origin}
use Rattle.pay_words.specs.declared.payment.Payment.{Payment}
use Rattle.pay_words.specs.declared.view.View.{View}
use Rattle.pay_words.specs.Making.{AreOpening}
use Rattle.pay_words.specs.Words.{unpaid, word_of}
use Rattle.pay_words.specs.Belongs.{Belongs}
use Rattle.pay_words.specs.Traces.{Traces, AreLawfulTraces, ending, last_payment, raises_of, total}
use Rattle.pay_words.specs.Sound.{IsSound}
use Rattle.pay_words.specs.Seating.{greatest, opening}
use Rattle.pay_words.specs.BoardRule.{BoardHistory, Suits, MeetsRule, opening_view}
use Rattle.pay_words.specs.Bells.{BellLedger, HasBells, taken_of, made_of, bell}
use Rattle.pay_words.proofs.Traces.{ending_stood, under_own_ending}
use Rattle.pay_words.proofs.Lawful.{paid_in_below, total_le, value_fits}
use Rattle.pay_words.specs.Memory.{IsInMemory, seat_memory}
use Rattle.pay_words.proofs.Tables.{tabled_at}
use Rattle.std.proofs.Common.{inl}
use Rattle.std.proofs.lemmas.List.Sums.{sum_by-cons}
use Rattle.pay_words.proofs.Bells.{sum_low}
use Rattle.pay_words.proofs.Pasts.{traces, past_known, past_lawful, start_over, start_low, start_within}
use Rattle.std.proofs.lemmas.List.Elements.{All-nil}
use Rattle.pay_words.proofs.Lengths.{over_opening}

-- the greatest with one number more
pub greatest_more : (ns : List ℕ) (n : ℕ) → greatest (ns ++ n ∷ []) ≡ max n (greatest ns)
greatest_more [] n = refl
greatest_more (m ∷ ns) n = omega (arith, ap (max m) (greatest_more ns n))

-- each number is at most the greatest
pub greatest_above : (ns : List ℕ) (x : ℕ) → slice_index ns x ≤ greatest ns
greatest_above [] x = zero-le
greatest_above (n ∷ ns) zero = omega arith
greatest_above (n ∷ ns) (suc x) = let rest = greatest_above ns x in omega arith

-- a bound of each number is one of the greatest
pub greatest_most : (ns : List ℕ) (k : ℕ) → ((x : ℕ) → x < length ns → slice_index ns x ≤ k) → greatest ns ≤ k
greatest_most [] k h = zero-le
greatest_most (n ∷ ns) k h = let rest = greatest_most ns k (λ x lt. h (suc x) (omega (arith, lt))) in let first : n ≤ k = h 0 (omega arith) in omega arith

-- where nothing was raised before a board, no stamp is there
pub clock_of_none : (net : Net) (start : List Payment) (past : List Raise) → Belongs net start past → past ≡ []
    → greatest (map (λ p. p.stamp) start) ≡ 0
clock_of_none net start past h none =
    omega (
      arith,
      greatest_most (map (λ p. p.stamp) start) 0 (λ x lt.
          le_of_eq (at_first net start past h (λ p. p.stamp) x (omega (arith, lt, over_first net start past h (λ p. p.stamp)))
          ∙ ap (λ (rs : List Raise). (last_payment x rs).stamp) none)),
    )

module _ (d : Origin) (start : List Payment) (network : IsNetwork d.net) (h : Belongs d.net start d.past) where
  -- the network
  abbrev net : Net
  net = d.net

  -- the raises of each debt in the past
  abbrev t : Traces
  t = traces net start d.past h

  -- how many debts there are
  abbrev n : ℕ
  n = length net.debts

  -- what the master shows at first
  abbrev first_view : View
  first_view = record { live = true; rolled = 1; shown = opening net start }

  -- a list made of the payments has a place for each debt
  over : (f : Payment → ℕ) → length (map f start) ≡ n
  over = over_first net start d.past h

  -- each value is that of the last raise of its debt
  value_at : (x : ℕ) → x < n → slice_index (map (λ p. p.value) start) x ≡ (ending (t x)).value
  value_at = at_first net start d.past h (λ p. p.value)

  -- and so is each stamp
  stamp_at : (x : ℕ) → x < n → slice_index (map (λ p. p.stamp) start) x ≡ (ending (t x)).stamp
  stamp_at = at_first net start d.past h (λ p. p.stamp)

  -- the traces of the past are lawful
  lawful : AreLawfulTraces net t
  lawful = past_lawful net start d.past h

  -- no value is above the least clearing payment
  values_below : IsAtMost (map (λ p. p.value) start) (least net)
  values_below = rw (values_paid net start d.past h) (paid_in_below net t lawful)

  -- no stamp is above what is paid in all
  clock_low : greatest (map (λ p. p.stamp) start) ≤ total net t
  clock_low = greatest_most (map (λ p. p.stamp) start) (total net t)
      (λ x lt. let l : x < n = omega (arith, lt, over (λ p. p.stamp)) in omega (arith, stamp_at x l, start_low net start d.past h x l))

  -- what the first master shows is sound
  pub sound_opening : IsSound (opening net start)
  sound_opening = record {
    network = network;
    over = over_opening net start (start_over net start d.past h);
    pays_within = λ x lt _. le_trans (le_of_eq (value_at x lt))
        (start_within net start d.past h x lt (map (λ p. p.value) start) value_at (over (λ p. p.value)));
    sights_below = values_below;
    paid_below = values_below;
    clock_below = le_trans clock_low (total_le net t lawful);
  }

  -- the history of a board at its opening
  abbrev history : BoardHistory
  history = record { owner = λ _. 0; chief = 0; base = d.past; trace = t }

  -- its view suits the rule
  first : Suits d history 1 1 0 first_view
  first = record {
    net_is = refl;
    sound = sound_opening;
    mine = λ _ _. refl;
    pays = λ x lt _. λ i. record { value = value_at x lt i; stamp = stamp_at x lt i };
    told = λ x _ _. sym (append-nil (raises_of x d.past));
    only = All-nil _;
    stood = λ x lt. rw (value_at x lt, stamp_at x lt) (ending_stood (t x));
    floor = λ x lt. le_of_eq (value_at x lt);
    seen_by_clock = greatest_above (map (λ p. p.stamp) start);
    paid_by_clock = λ x lt _. omega (arith, stamp_at x lt, greatest_above (map (λ p. p.stamp) start) x);
    past_by_clock = λ i e l.
        let lt = past_known net start d.past h i e l in
        let x = (get_or d.past i e).debt.0 in
        omega (arith, under_own_ending d.past i e l (lawful.rise x lt), stamp_at x lt, greatest_above (map (λ p. p.stamp) start) x);
    late = All-nil _;
    clock_low = clock_low;
    leads = λ _. (refl, sym (append-nil d.past), refl, le_refl 1, le_refl 1);
  }

  -- each of the payments is that of the debt's last raise, whatever stands past the end
  start_ending : (k : ℕ) (p : Payment) → k < length start → (get_or start k p ≡ ending (t k)) × (k < n)
  start_ending k p lt =
      let l : k < n = omega (arith, lt, start_over net start d.past h) in
      (ap (λ (ps : List Payment). get_or ps k p) h.start_is ∙ tabled_at n (λ y. ending (t y)) k p l, l)

  module _ (words : List ℕ) (opening_words : AreOpening net start words) where
    -- the rule holds of the words and the one view of a new board
    opens : MeetsRule d words (first_view ∷ [])
    opens = record {
      history = history;
      network = network;
      size = opening_words.size;
      stands = λ x lt. opening_words.paid x lt ∙ ap word_of (start_ending x unpaid (omega (arith, lt, start_over net start d.past h))).0;
      lawful = lawful;
      known = past_known net start d.past h;
      held = λ b lt. (_, refl, refl, get_or-replicate (length net.banks) b true false lt);
      led = (_, refl, refl, refl);
      fits = rw opening_words.roll (each_longer (Suits d history 1 1) [] first_view (λ j u e _. absurd (some-ne-none u (sym e))) first);
      rung = record {
        ledger = ledger;
        bells = λ b lt. le_of_eq (opening_words.up b lt);
        answered = λ x lt. inl refl;
        lifted = λ x lt. inl (le_refl _);
        levels = λ x lt. le_refl _;
        fresh = λ b lt _. (opening_words.up b lt, λ x _ _. refl);
        few =
            let up = sum_low (length net.banks) 1 (bell net words) (λ b lt. le_of_eq (opening_words.up b lt)) in
            let owed = sum_low n 0 (λ _. 0) (λ _ _. le_refl 0) in
            omega (arith, up, owed, sum_by-cons taken_of first_view [], sum_by-cons made_of first_view []);
        has = each_longer (λ _. HasBells d ledger) [] first_view (λ j u e _. absurd (some-ne-none u (sym e))) (record {
          seen = λ x lt _. value_at x lt;
          pend = λ x lt _. get_or-replicate n x false false lt;
          owed = λ x lt _. get_or-replicate n x false false lt;
          level = λ x lt. le_of_eq (value_at x lt);
          fresh = λ b lt _. get_or-replicate (length net.banks) b true false lt;
        });
      };
    }
      where
        ledger : BellLedger
        ledger = record { seen = λ x. (ending (t x)).value; pend = λ _. false; owed = λ _. false; level = λ x. (ending (t x)).value; fresh = λ _. true }

    -- it does with the payments that the past left
    pub opens_past : MeetsRule d words (opening_view d ∷ [])
    opens_past = subst (λ (ps : List Payment). MeetsRule d words (record { live = true; rolled = 1; shown = opening net ps } ∷ [])) h.start_is opens

  -- each of the words fits
  pub start_fits : (k : ℕ) (p : Payment) → k < length start → word_of (get_or start k p) < 18446744073709551616
  start_fits k p lt =
      let e = start_ending k p lt in
      rw e.0 (omega (arith, value_fits net t lawful k e.1 network, start_low net start d.past h k e.1, total_le net t lawful, network.owed_in_limit))

  -- each of the values fits in four bytes
  pub start_values_fit : (k : ℕ) (p : Payment) → k < length start → (get_or start k p).value < STAMP
  start_values_fit k p lt = let e = start_ending k p lt in rw e.0 (omega (arith, value_fits net t lawful k e.1 network))

  -- what the master has in memory at first
  pub kept_opening : (clock workers : ℕ) (debtors : List ℕ) → debtors ≡ map (debtor_of net) (debt_numbers net) → clock ≡ greatest (map (λ p. p.stamp) start) → 0 < workers
      → IsInMemory (opening_view d) (seat_memory [] (replicate workers (map (λ p. p.value) start)) debtors workers 0) clock 0
  kept_opening clock workers debtors e f some' =
      let values : List ℕ = map (λ p. p.value) start in
      subst (λ (ps : List Payment). IsInMemory (record { live = true; rolled = 1; shown = opening net ps })
      (seat_memory [] (replicate workers values) debtors workers 0) clock 0) h.start_is
      (at_master first_view _ _ _ refl refl sound_opening f refl some' (record {
        lists = length-replicate workers values;
        debtors = e;
        tells = λ x lt _. rw (get_or-replicate workers (debtor_of net x % workers) values []
            (mod-lt (debtor_of net x) some')) (omega (arith, lt, over (λ p. p.value)), refl);
      }))
