-- What a bank's new cash changes, and what it leaves.
use Rattle.std.proofs.Common.{◌≡◌, ℕ, ◌+◌, ◌<◌, ◌≤◌, Bool, true, List, length, refl, sym, ap, ◌∙◌, subst, arith}
use Rattle.std.proofs.lemmas.Bool.{true≢false}
use Rattle.clr_net.specs.Amounts.{IsAtMost}
use Rattle.clr_net.specs.Net.{Net, cash_of, with_cash}
use Rattle.clear_core.specs.Clearing.{least, pay, rounds, spend}
use Rattle.clear_core.specs.Raised.{is_marked}
use Rattle.clear_core.proofs.Pay.{spend_mono}
use Rattle.clear_least.specs.Sweeps.{IsSwept}
use Rattle.clear_core.specs.Richer.{IsRicher}
use Rattle.clear_core.proofs.Richer.{stands_richer, traced_richer}
use Rattle.clear_core.specs.declared.event.Raise.{Raise}
use Rattle.pay_words.specs.Belongs.{Belongs}
use Rattle.pay_words.specs.declared.payment.Payment.{Payment}
use Rattle.cascade.specs.MoreCash.{HasMoreCash}
use Rattle.cascade.proofs.CashAt.{cash_at, cash_is_set, cash_stays, has_more_cash, later_cash_counts, own_cash}
use Rattle.cascade.proofs.GoingOn.{goes_on}
use Rattle.cascade.proofs.MoreCash.{richer_by_cash}
use Rattle.rescue.specs.Rescue.{added}
use Rattle.rescue.specs.Searching.{AreLeastWithLess}

-- the bank has the sum more
pub cash_added : (net : Net) (i a : ℕ) → i < length net.banks
    → cash_of (added net i a) i ≡ cash_of net i + a
cash_added net i a l = cash_is_set net i (cash_of net i + a) l

-- nothing added is nothing changed
pub added_nothing : (net : Net) (i : ℕ) → added net i 0 ≡ net
added_nothing net i = own_cash net i (cash_of net i + 0) (omega arith)

-- with a greater sum there is more cash than with a smaller one
pub more_by_more : (net : Net) (i a b : ℕ) → a ≤ b → HasMoreCash (added net i a) (added net i b)
more_by_more net i a b l = has_more_cash net i (cash_of net i + a) (cash_of net i + b) (omega arith)

-- and than without any
pub more_by_some : (net : Net) (i a : ℕ) → HasMoreCash net (added net i a)
more_by_some net i a =
    subst (λ (n : Net). HasMoreCash n (added net i a)) (added_nothing net i)
    (more_by_more net i 0 a (omega arith))

-- payments on all debts, from which rounds rise to the least that clear
abbrev pub GoOn : Net → List ℕ → Type 0
GoOn net P = (length P ≡ length net.debts) × IsAtMost P (pay net P) × IsAtMost P (least net)

-- a clearing goes on from the least payments without the sum
pub goes_on_with_sum : (net : Net) (i a : ℕ) → GoOn (added net i a) (least net)
unfolding pay rounds
goes_on_with_sum net i a =
    let way = (goes_on net (added net i a) (more_by_some net i a)).way in
    (way.as_many, way.rises, way.below)

-- payments with a smaller sum are the least with less cash
pub with_less : (net : Net) (i a b : ℕ) (paid : List ℕ) → i < length net.banks → a ≤ b
    → paid ≡ least (added net i a) → AreLeastWithLess (added net i b) i paid
with_less net i a b paid bank l e = record {
  cash = cash_of net i + a;
  no_more = omega (arith, cash_added net i b bank);
  are = e ∙ ap least (sym (later_cash_counts net i (cash_of net i + b) (cash_of net i + a)));
}

-- a clearing goes on from those, and at first the bank alone may pay more
pub swept_at_bank : (net : Net) (i : ℕ) (paid : List ℕ) (marks : List Bool)
    → AreLeastWithLess net i paid → length marks ≡ length net.banks → is_marked marks i ≡ true
    → IsSwept net (spend net) paid marks
swept_at_bank net i paid marks less over marked =
    let poor = with_cash net i less.cash in
    let more : HasMoreCash poor net =
    subst (HasMoreCash poor) (own_cash net i (cash_of net i) refl)
    (has_more_cash net i less.cash (cash_of net i) less.no_more) in
    let on = goes_on poor net more in
    subst (λ (P : List ℕ). IsSwept net (spend net) P marks) (sym less.are) (record {
      never = spend_mono net;
      way = on.way;
      for_each_bank = over;
      unmarked = λ j l e. on.quiet j (cash_stays net i less.cash j
          (λ (same : j ≡ i). true≢false (sym marked ∙ ap (is_marked marks) (sym same) ∙ e)));
    })

-- so no bank pays less, whatever was paid
pub richer_by_more : (net : Net) (i a b : ℕ) → a ≤ b → IsRicher (added net i a) (added net i b)
richer_by_more net i a b l =
    richer_by_cash net (cash_at net.banks i (cash_of net i + a))
    (cash_at net.banks i (cash_of net i + b)) (more_by_more net i a b l)

-- and with a sum than without
pub richer_by_some : (net : Net) (i a : ℕ) → IsRicher net (added net i a)
richer_by_some net i a =
    subst (λ (n : Net). IsRicher n (added net i a)) (added_nothing net i)
    (richer_by_more net i 0 a (omega arith))

-- and a past that belongs to a network belongs to it with more cash: its order, and what it left on
-- each debt, are read without the banks
pub belongs_added : (net : Net) (i a : ℕ) (start : List Payment) (past : List Raise)
    → Belongs net start past → Belongs (added net i a) start past
belongs_added net i a start past b = record {
  in_order = b.in_order;
  stands = stands_richer net (added net i a) (richer_by_some net i a) past b.stands;
  traced = traced_richer net (added net i a) (richer_by_some net i a) past b.traced;
  start_is = b.start_is;
  stamps_low = b.stamps_low;
}
