-- What the words and the raises are when a board is closed by a master that holds all banks.
use Rattle.pay_words.proofs.Standing.{stands}
use Rattle.std.proofs.Common.{◌≡◌, ℕ, ◌+◌, ◌<◌, ◌≤◌, All, List, ◌++◌, length, get_or, sum, Bool, true, refl, sym, ap, ◌∙◌, subst, arith}
use Rattle.std.specs.Prelude.{slice_index}
use Rattle.std.proofs.lemmas.List.{append-nil, ext_get_or}
use Rattle.atomic_table.specs.Table.{Final, Seen}
use Rattle.clr_net.specs.Amounts.{IsAtMost}
use Rattle.clr_net.specs.Net.{Net, debtor_of, debt_numbers}
use Rattle.clear_core.specs.Clearing.{least}
use Rattle.clear_core.specs.History.{IsHistory, ordered, replayed}
use Rattle.clear_core.proofs.Ordered.{ordered_again, ordered_stands, ordered_is_traced}
use Rattle.clear_core.specs.declared.event.Raise.{Raise}
use Rattle.pay_words.specs.declared.origin.Origin.{Origin}
use Rattle.pay_words.specs.declared.payment.Payment.{Payment}
use Rattle.pay_words.specs.declared.view.Shown.{Shown}
use Rattle.pay_words.specs.declared.view.View.{View}
use Rattle.pay_words.specs.Belongs.{Belongs}
use Rattle.pay_words.specs.Ends.{payments_of, values, Ends}
use Rattle.pay_words.specs.Positions.{position_of}
use Rattle.pay_words.specs.Words.{unpaid, payment_of}
use Rattle.pay_words.specs.Traces.{Traces, AreLawfulTraces, ending, raises_of, last_payment, start_of, paid_in}
use Rattle.pay_words.specs.Tables.{tabled}
use Rattle.pay_words.specs.Holding.{HoldsAll, holds}
use Rattle.pay_words.specs.Paying.{a_raise}
use Rattle.pay_words.specs.BoardRule.{BoardHistory, Suits, own_raises}
use Rattle.pay_words.specs.Bells.{taken_of, made_of}
use Rattle.pay_words.proofs.Tables.{tabled_at, tabled_agree, length-tabled}
use Rattle.pay_words.proofs.Traces.{under_own_ending}
use Rattle.pay_words.proofs.Lawful.{paid_in_below}
use Rattle.pay_words.proofs.Pasts.{covered}
use Rattle.pay_words.proofs.Orders.{same_of, all_ordered}
use Rattle.pay_words.proofs.Histories.{lawful_agree, history_of, replayed_is}
use Rattle.pay_words.proofs.Views.{rule, not_both, its_raises}
use Rattle.pay_words.proofs.Bells.{live_of, sum_least, sum_alone}
use Rattle.std.proofs.lemmas.Bool.{false_from_ne_true, cond_both}
use Rattle.std.proofs.Common.{◌≢◌}
use mathlib.Core.List.{map-map}

-- raises that are lawful by debt, whatever their order
module _ (net : Net) (raises : List Raise) (known : All (λ r. r.debt.0 < length net.debts) raises)
    (h : AreLawfulTraces net (λ x. raises_of x raises)) where
  -- the raises of each debt
  abbrev t : Traces
  t x = raises_of x raises

  -- what each debt ended with
  abbrev payments : List Payment
  payments = start_of net raises

  -- the values of the payments are what the traces have paid
  values_are : values payments ≡ paid_in net t
  values_are = map-map (λ (p : Payment). p.value) (λ (x : ℕ). last_payment x raises) (debt_numbers net)

  -- no stamp of the raises is above the sum of the values
  pub low_stamps : All (λ r. r.stamp ≤ sum (values payments)) raises
  low_stamps k d lt =
      let l = known k d lt in
      omega (arith, under_own_ending raises k d lt (h.rise _ l), h.low _ l, ap sum values_are)

  -- no value is above the least clearing payment
  pub values_below : IsAtMost (values payments) (least net)
  values_below x = omega (arith, paid_in_below net t h x, ap (λ (ns : List ℕ). slice_index ns x) values_are)

  -- nor is any stamp of the payments above the sum of the values
  payment_low : All (λ p. p.stamp ≤ sum (values payments)) payments
  payment_low k d lt =
      let l : k < length net.debts = omega (arith, lt, length-tabled (length net.debts) (λ x. last_payment x raises)) in
      omega (arith, ap (λ (p : Payment). p.stamp) (tabled_at (length net.debts) (λ x. last_payment x raises) k d l), h.low k l, ap sum values_are)

  -- the payments are what the raises leave, once they are in order
  start_same : payments ≡ start_of net (ordered raises)
  start_same = tabled_agree unpaid (length net.debts) (λ x. last_payment x raises) (λ x. last_payment x (ordered raises)) (λ x lt. ap ending (sym (same_of x raises (h.rise x lt))))

  -- the raises are a lawful history
  history : IsHistory net raises
  history = history_of net raises h known

  -- the payments and the raises in order may open another board
  pub belongs : Belongs net payments (ordered raises)
  belongs = record { in_order = ordered_again raises; stands = ordered_stands net raises history; traced = ordered_is_traced net raises history; start_is = start_same; stamps_low = payment_low }

  -- the raises in order replay to the values
  pub replays : replayed net (ordered raises) ≡ values payments
  replays = replayed_is net (ordered raises) ∙ ap values (sym start_same)

  -- and so no stamp of the raises in order is above the sum of the values
  pub low_in_order : All (λ r. r.stamp ≤ sum (values payments)) (ordered raises)
  low_in_order = all_ordered (λ r. r.stamp ≤ sum (values payments)) raises low_stamps

-- a seat that holds no bank of a debtor has made no raise
made_none : (d : Origin) (k : BoardHistory) (roll count id j : ℕ) (v u : View) → Suits d k roll count id v → v.shown.master ≡ true → ((x : ℕ) → x < length d.net.debts → holds v.shown (debtor_of d.net x) ≡ true)
    → j ≢ id → (u.live ≡ true → Suits d k roll count j u) → made_of u ≡ 0
made_none d k roll count id j v u f chief all apart fits = cond_both u.live (length u.shown.raises) 0 (λ n. n ≡ 0)
    (λ on.
    let g = fits on in
    let only = its_raises d k roll count j u g (false_from_ne_true u.shown.master (λ e. apart ((g.leads e).0 ∙ sym (f.leads chief).0))) in
    grind (
      arith,
      λ (some : 0 < length u.shown.raises).
          let r = get_or u.shown.raises 0 (a_raise 0 0 0) in
          let o = only 0 (a_raise 0 0 0) some in
          not_both d k roll count id j u v (debtor_of d.net r.debt.0) apart f (all _ o.0) g o.1,
    ))
    (λ _. refl)

-- what the last state says, of the words
pub record Closed (d : Origin) (s : Shown) (words : List ℕ) : Type 0 where
  pub size : length words ≡ 1 + length d.net.debts + length d.net.banks
  pub payments : (x : ℕ) → x < length d.net.debts → payment_of (slice_index words (position_of d.net x + 1)) ≡ record { value = slice_index s.paid x; stamp = slice_index s.paid_stamps x }
  pub ends : Ends d.net d.past s (payments_of s)

-- the words of a board whose master holds all banks are what the board closes with
pub closes : (d : Origin) (id : ℕ) (v : View) (ws : List ℕ) (xs : List (Unit {0})) → v.live ≡ true → v.shown.master ≡ true → HoldsAll v.shown → Final (Seen (rule d) id v) ws xs → Closed d v.shown ws
closes d id v ws xs on chief all final =
    let s = final.0 in
    let h = final.1.0 in
    let k = h.history in
    let f = h.fits id v final.1.1 on in
    let net = d.net in
    let raises : List Raise = d.past ++ v.shown.raises in
    let base : k.base ≡ raises = (f.leads chief).1 in
    let over : length v.shown.net.debts ≡ length net.debts = ap (λ (n : Net). length n.debts) f.net_is in
    let mine : (x : ℕ) → x < length net.debts → holds v.shown (debtor_of net x) ≡ true =
    λ x lt. all (debtor_of net x) (subst (λ (n : Net). debtor_of net x < length n.banks) (sym f.net_is) (h.network.each_debt x lt).debtor_known) in
    let same : (x : ℕ) → x < length net.debts → raises_of x raises ≡ k.trace x =
    λ x lt. ap (raises_of x) (sym base)
    ∙ sym (f.told x lt (mine x lt) ∙ ap (λ (b : Bool). raises_of x k.base ++ raises_of x (own_raises b v.shown.raises)) chief ∙ append-nil (raises_of x k.base)) in
    let lawful : AreLawfulTraces net (λ x. raises_of x raises) = lawful_agree net k.trace (λ x. raises_of x raises) h.lawful same in
    let known = subst (All (λ r. r.debt.0 < length net.debts)) base h.known in
    let shown : payments_of v.shown ≡ start_of net raises =
    subst (λ (n : ℕ). tabled n (λ x. record { value = slice_index v.shown.paid x; stamp = slice_index v.shown.paid_stamps x }) ≡ start_of net raises) (sym over)
    (tabled_agree unpaid (length net.debts) (λ x. record { value = slice_index v.shown.paid x; stamp = slice_index v.shown.paid_stamps x }) (λ x. last_payment x raises)
    (λ x lt. f.pays x lt (mine x lt) ∙ ap ending (sym (same x lt)))) in
    record {
      size = ap length (sym final.2) ∙ h.size;
      payments = λ x lt. ap (λ (l : List ℕ). payment_of (slice_index l (position_of net x + 1))) (sym final.2)
          ∙ stands d s.words s.views h x lt ∙ sym (f.pays x lt (mine x lt));
      ends = subst (Ends net d.past v.shown) (sym shown) (record {
        payments_are = sym shown;
        below_least = values_below net raises known lawful;
        covered = covered net _ _ (belongs net raises known lawful);
        lawful = belongs net raises known lawful;
        replays = replays net raises known lawful;
        low_stamps = low_stamps net raises known lawful;
        low_in_order = low_in_order net raises known lawful;
        few_bells =
            let r = h.rung in
            let taken = sum_least taken_of s.views id v final.1.1 in
            let made = sum_alone made_of s.views id v final.1.1 (λ j u ne e. made_none d k (slice_index s.words 0) (length s.views) id j v u f chief mine ne (λ o. h.fits j u e o)) in
            omega (arith, r.few, taken, made, live_of v on);
        after_past = f.late;
      });
    }

-- the payments in the list that the words are copied to
pub copied : (d : Origin) (s : Shown) (words : List ℕ) (into : List Payment) → s.net ≡ d.net → Closed d s words → length into ≡ length d.net.debts
    → ((k : ℕ) → k < length into → get_or into k unpaid ≡ payment_of (slice_index words (position_of d.net k + 1))) → Ends d.net d.past s into
copied d s words into e h size each =
    let over : length s.net.debts ≡ length d.net.debts = ap (λ (n : Net). length n.debts) e in
    let pay : ℕ → Payment = λ x. record { value = slice_index s.paid x; stamp = slice_index s.paid_stamps x } in
    let all : payments_of s ≡ into = ext_get_or unpaid (payments_of s) into (length-tabled (length s.net.debts) pay ∙ over ∙ sym size)
    (λ x lt. let l : x < length s.net.debts = omega (arith, lt, length-tabled (length s.net.debts) pay) in
    tabled_at (length s.net.debts) pay x unpaid l ∙ sym (each x (omega (arith, l, over, size)) ∙ h.payments x (omega (arith, l, over)))) in
    subst (Ends d.net d.past s) all h.ends
