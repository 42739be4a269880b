-- All bells down at a seat that holds all banks: the payments are the least that clear.
use Rattle.std.proofs.Common.{◌≡◌, ◌≢◌, ℕ, ◌+◌, ◌<◌, true, List, length, sym, ap, ◌∙◌, subst, arith, inl, inr, true≢false, ⊎_elim}
use Rattle.std.specs.Prelude.{slice_index}
use mathlib.Core.Option.{some}
use lib.ListN.{get_elem?}
use Rattle.clr_net.specs.Net.{Net, creditor_of, debtor_of}
use Rattle.clear_core.specs.Clearing.{Clears, part, receipts}
use Rattle.clear_core.proofs.Least.{least_clears}
use Rattle.bank_desk.specs.Desks.{desk_of}
use Rattle.bank_worker.specs.Views.{Divides}
use Rattle.pay_words.specs.BoardRule.{MeetsRule, Suits}
use Rattle.pay_words.specs.Bells.{HasBells, IsCalled, IsRung, bell}
use Rattle.pay_words.specs.Ends.{values}
use Rattle.pay_words.specs.Positions.{position_of}
use Rattle.pay_words.specs.Standing.{payments_in}
use Rattle.pay_words.specs.Traces.{ending}
use Rattle.pay_words.specs.Views.{BoardView, holds, tabled}
use Rattle.pay_words.specs.Words.{payment_of, unpaid}
use Rattle.pay_words.specs.declared.origin.Origin.{Origin}
use Rattle.pay_words.specs.declared.payment.Payment.{Payment}
use Rattle.pay_words.specs.declared.view.Shown.{Shown}
use Rattle.pay_words.specs.declared.view.View.{View}
use Rattle.pay_words.proofs.Standing.{stands}
use Rattle.pay_words.proofs.Starts.{values_shown}
use Rattle.pay_words.proofs.Tables.{tabled_agree}
use Rattle.settle.specs.Bells.{AreAllDown, IsIdle, NobodyCanPayMore}
use Rattle.settle.specs.Between.{IsBetween}
use Rattle.settle.proofs.Quiet.{IsQuietEnd, part_of_desk, quiet_end}

-- between two rounds a board is idle
pub idle_between : (net : Net) (s : Shown) → IsBetween net s → IsIdle net s
idle_between net s h = record {
  net_is = h.net_is;
  holds_all = h.holds_all;
  no_rings = λ x lx held. h.no_rings x (omega (arith, lx, ap (λ (m : Net). length m.debts) h.net_is));
  calm = h.calm;
  rest = h.rest;
}

module _ (d : Origin) (words : List ℕ) (views : List View) (id : ℕ) (v : View) (h : MeetsRule d words views)
    (at : get_elem? views id ≡ some v) (live : v.live ≡ true) (idle : IsIdle d.net v.shown)
    (down : (b : ℕ) → b < length d.net.banks → bell d.net words b ≡ 0) where
  -- what the seat shows suits the history
  fits : Suits d h.history (slice_index words 0) (length views) id v
  fits = h.fits id v at live

  -- the rule of the bells
  abbrev r : IsRung d h.history.trace words views
  r = h.rung

  -- what the seat shows agrees with the bells
  abbrev g : HasBells d h.rung.ledger v
  g = h.rung.has id v at live

  -- a debt of the network is one of the seat's
  here : (x : ℕ) → x < length d.net.debts → x < length v.shown.net.debts
  here x lx = omega (arith, lx, ap (λ (m : Net). length m.debts) idle.net_is)

  -- the seat holds every bank
  held : (b : ℕ) → b < length d.net.banks → holds v.shown b ≡ true
  held b lb = idle.holds_all b (omega (arith, lb, ap (λ (m : Net). length m.banks) idle.net_is))

  -- and so the debtor of every debt
  held_debtor : (x : ℕ) → x < length d.net.debts → holds v.shown (debtor_of d.net x) ≡ true
  held_debtor x lx = held (debtor_of d.net x) (h.network.each_debt x lx).debtor_known

  -- no creditor is called: its bell is down, and nothing is pending
  not_called : (x : ℕ) → x < length d.net.debts → IsCalled d.net words h.rung.ledger x → ⊥
  not_called x lx (inl e) = absurd (omega (arith, e, down (creditor_of d.net x) (h.network.each_debt x lx).creditor_known))
  not_called x lx (inr e) = absurd (true≢false (sym e
      ∙ sym (g.pend x lx (held (creditor_of d.net x) (h.network.each_debt x lx).creditor_known)) ∙ idle.calm x lx))

  -- no ring is owed on any debt
  not_owed : (x : ℕ) → x < length d.net.debts → h.rung.ledger.owed x ≢ true
  not_owed x lx e = true≢false (sym e ∙ sym (g.owed x lx (held_debtor x lx))
      ∙ idle.no_rings x (here x lx) (ap (λ (m : Net). holds v.shown (debtor_of m x)) idle.net_is ∙ held_debtor x lx))

  -- what it shows as paid is what the last raises left
  pays : (x : ℕ) → x < length d.net.debts
      → record { value = slice_index v.shown.paid x; stamp = slice_index v.shown.paid_stamps x } ≡ ending (h.history.trace x)
  pays x lx = fits.pays x lx (held_debtor x lx)

  -- so each has seen what is paid to it
  saw : (x : ℕ) → x < length d.net.debts → slice_index v.shown.sights x ≡ slice_index v.shown.paid x
  saw x lx = ⊎_elim
      (λ (a : h.rung.ledger.seen x ≡ (ending (h.history.trace x)).value).
      g.seen x lx (held (creditor_of d.net x) (h.network.each_debt x lx).creditor_known) ∙ a ∙ sym (ap (λ (p : Payment). p.value) (pays x lx)))
      (⊎_elim (λ (c : IsCalled d.net words h.rung.ledger x). absurd (not_called x lx c))
      (λ (o : h.rung.ledger.owed x ≡ true). absurd (not_owed x lx o))) (r.answered x lx)

  -- and each bank divides, since the bell of a fresh one would be up
  divides : (b : ℕ) → b < length d.net.banks → Divides v.shown (desk_of d.net b)
  divides b lb = elim (idle.rest b lb) [
    | inl f ↦ absurd (omega (arith, down b lb, (r.fresh b lb (sym (g.fresh b lb (held b lb)) ∙ f)).0))
    | inr e ↦ e
  ]

  -- each payment is the part that its debtor pays from what is seen
  part_is : (x : ℕ) → x < length d.net.debts
      → slice_index v.shown.paid x ≡ part d.net x (receipts d.net v.shown.sights (debtor_of d.net x))
  part_is x lx = part_of_desk d.net v.shown x lx (divides (debtor_of d.net x) (h.network.each_debt x lx).debtor_known)

  -- so the payments are least, and each sight is what is paid
  quiet : IsQuietEnd d.net v.shown.paid v.shown.sights
  quiet = quiet_end d.net v.shown.paid v.shown.sights
      (fits.sound.over.paid ∙ ap (λ (m : Net). length m.debts) idle.net_is)
      (rw (idle.net_is) at fits.sound.paid_below) (rw (idle.net_is) at fits.sound.sights_below)
      part_is (λ x lx. omega (arith, saw x lx))

  -- what stands in the words is what the seat shows as paid
  words_show : values (payments_in d.net words) ≡ v.shown.paid
  words_show =
      let shown : ℕ → Payment = λ x. record { value = slice_index v.shown.paid x; stamp = slice_index v.shown.paid_stamps x } in
      ap values (tabled_agree unpaid (length d.net.debts) (λ x. payment_of (slice_index words (position_of d.net x + 1))) shown
      (λ x lx. stands d words views h x lx ∙ sym (pays x lx)))
      ∙ ap (λ (m : Net). values (tabled (length m.debts) shown)) (sym idle.net_is)
      ∙ values_shown v.shown fits.sound.over.paid

  -- so nobody can pay more
  nobody : NobodyCanPayMore d.net words v.shown
  nobody = record {
    no_raise = λ x lx. omega (arith, part_is x lx);
    seen = saw;
    clears = subst (Clears d.net) (sym quiet.paid) (least_clears d.net);
    paid = quiet.paid;
    words_are = words_show ∙ quiet.paid;
  }

-- at each moment at which all bells are down and an idle seat holds all banks, nobody can pay more
pub nobody_once_down : (board : BoardView) (words : List ℕ) (s : Shown) → AreAllDown board words s → IsIdle board.net s
    → NobodyCanPayMore board.net words s
nobody_once_down board words s m =
    subst (λ (u : Shown). IsIdle board.net u → NobodyCanPayMore board.net words u) m.seat.3 (λ idle.
    nobody (record { net = board.net; past = board.past }) words m.views m.id m.seat.0 m.rule m.seat.1 m.seat.2 idle m.down)
