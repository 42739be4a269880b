-- What raises leave on each debt, raise by raise, and what a seat shows of it.
use Rattle.std.proofs.lemmas.Grind.{get_or-set_at}
use Rattle.std.proofs.Common.{◌≡◌, ◌≢◌, ℕ, ◌<◌, List, [], ◌∷◌, ◌++◌, length, map, replicate, set, refl, sym, ap, ◌∙◌, subst, arith, length-set, get_or-set_same, get_or-set_other}
use Rattle.std.specs.Prelude.{slice_index}
use Rattle.std.proofs.lemmas.List.{ext_get_or, get_or-replicate, length-replicate}
use mathlib.Core.List.{map-map}
use Rattle.clr_net.specs.Net.{Net, debt_numbers}
use Rattle.clear_core.specs.declared.event.Raise.{Raise}
use Rattle.pay_words.specs.declared.payment.Payment.{Payment}
use Rattle.pay_words.specs.declared.view.Shown.{Shown}
use Rattle.pay_words.specs.Ends.{payments_of, values}
use Rattle.pay_words.specs.Traces.{last_payment, raises_of, start_of}
use Rattle.pay_words.specs.Words.{unpaid}
use Rattle.pay_words.proofs.Tables.{tabled_at, length-tabled}
use Rattle.pay_words.proofs.Traces.{left_by, ending_push, raises_of-push, raises_of-push_else}

-- what stands on each debt after some raises
start_at : (net : Net) (rs : List Raise) (x : ℕ) → x < length net.debts → Rattle.std.proofs.Common.get_or (start_of net rs) x unpaid ≡ last_payment x rs
start_at net rs x lt = tabled_at (length net.debts) (λ y. last_payment y rs) x unpaid lt

-- raises leave a payment on each debt
start_over : (net : Net) (rs : List Raise) → length (start_of net rs) ≡ length net.debts
start_over net rs = length-tabled (length net.debts) (λ y. last_payment y rs)

-- no raise leaves nothing paid
pub start_none : (net : Net) → start_of net [] ≡ replicate (length net.debts) unpaid
start_none net = ext_get_or unpaid (start_of net []) (replicate (length net.debts) unpaid)
    (start_over net [] ∙ sym (length-replicate (length net.debts) unpaid))
    (λ x lt. let l : x < length net.debts = omega (arith, lt, start_over net []) in start_at net [] x l ∙ sym (get_or-replicate (length net.debts) x unpaid unpaid l))

-- one more raise is what stands on its debt, and no other debt changes
pub start_more : (net : Net) (rs : List Raise) (r : Raise) → start_of net (rs ++ r ∷ []) ≡ set (start_of net rs) r.debt.0 (left_by r)
start_more net rs r = ext_get_or unpaid (start_of net (rs ++ r ∷ [])) (set (start_of net rs) r.debt.0 (left_by r))
    (start_over net (rs ++ r ∷ []) ∙ sym (length-set (start_of net rs) r.debt.0 (left_by r) ∙ start_over net rs))
    (λ x lt.
    let l : x < length net.debts = omega (arith, lt, start_over net (rs ++ r ∷ [])) in
    grind (
      arith,
      get_or-set_at,
      get_or-set_other {A = Payment},
      start_at net (rs ++ r ∷ []) x l,
      start_at net rs x l,
      start_over net rs,
      raises_of-push x rs r,
      raises_of-push_else x rs r,
      ending_push unpaid (raises_of x rs) r,
    ))

-- the values of the payments that a seat shows are what it shows as paid
pub values_shown : (s : Shown) → length s.paid ≡ length s.net.debts → values (payments_of s) ≡ s.paid
values_shown s size =
    let n = length s.net.debts in
    let shown : ℕ → Payment = λ x. record { value = slice_index s.paid x; stamp = slice_index s.paid_stamps x } in
    map-map (λ (p : Payment). p.value) shown (debt_numbers s.net)
    ∙ ext_get_or 0 (map (slice_index s.paid) (debt_numbers s.net)) s.paid (length-tabled n (slice_index s.paid) ∙ sym size)
    (λ x lt. tabled_at n (slice_index s.paid) x 0 (omega (arith, lt, length-tabled n (slice_index s.paid))))
