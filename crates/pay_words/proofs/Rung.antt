-- Each step keeps the rule of the bells.
use Rattle.std.proofs.lemmas.Grind.{common_steps, get_or-set_at}
use Rattle.std.proofs.lemmas.Bool.Decides.{nat_tests}
use Rattle.pay_words.proofs.Views.{each_set}
use Rattle.pay_words.proofs.Bells.{live_of}
use Rattle.std.proofs.Common.{◌≡◌, ◌≢◌, ℕ, ◌+◌, ◌<◌, ◌≤◌, List, length, set, sum, Bool, true, false, ap, ◌∙◌, arith, le_trans, length-append, get_or-set_other}
use Rattle.std.specs.Prelude.{if◌then◌else◌}
use mathlib.Core.Option.{some}
use lib.ListN.{get_elem?}
use Rattle.clr_net.specs.Net.{Net, debtor_of, creditor_of}
use Rattle.clear_core.specs.declared.event.Raise.{Raise}
use Rattle.pay_words.specs.declared.origin.Origin.{Origin}
use Rattle.pay_words.specs.declared.payment.Payment.{Payment}
use Rattle.pay_words.specs.declared.view.View.{View}
use Rattle.pay_words.specs.Traces.{Traces, ending}
use Rattle.pay_words.specs.Holding.{holds}
use Rattle.pay_words.specs.Paying.{looked, raised}
use Rattle.pay_words.specs.Bells.{BellLedger, HasBells, IsRung, bell, bells_up, taken_of, made_of}
use Rattle.pay_words.specs.Positions.{position_of}
use Rattle.pay_words.specs.Steps.{showing}
use Rattle.pay_words.proofs.SideBySide.{within}
use Rattle.pay_words.proofs.Tables.{tabled_agree, changed}
use Rattle.pay_words.proofs.Traces.{pushed}
use Rattle.pay_words.proofs.Bells.{sum_views, marks_grow_by_one}

-- views of other seats that do not hold a bank
abbrev pub NoOther : List View → ℕ → ℕ → Type 0
NoOther views id b = (j : ℕ) (u : View) → j ≢ id → get_elem? views j ≡ some u → u.live ≡ true → holds u.shown b ≡ true → ⊥

module _ (d : Origin) (t : Traces) (words : List ℕ) (views : List View) (id : ℕ) (v : View) (at : get_elem? views id ≡ some v) (on : v.live ≡ true) (h : IsRung d t words views) where
  -- the network
  abbrev net : Net
  net = d.net

  -- how many debts there are
  abbrev n : ℕ
  n = length d.net.debts

  -- what is kept of the bells
  abbrev w : BellLedger
  w = h.ledger

  -- a step of a seat that changes no word of a bell, no bell of its view and no raise
  pub rung_same : (now : List ℕ) (u : View) → ((b : ℕ) → bell net now b ≡ bell net words b) → (HasBells d w v → HasBells d w u) → u.live ≡ v.live → u.shown.taken ≡ v.shown.taken → u.shown.raises ≡ v.shown.raises
      → IsRung d t now (set views id u)
  rung_same now u bells keep live taken made = record {
    ledger = w;
    bells = λ b lt. omega (arith, h.bells b lt, bells b);
    answered = λ x lt. grind (arith, h.answered x lt, bells (creditor_of net x));
    lifted = λ x lt. grind (arith, h.lifted x lt, bells (creditor_of net x));
    levels = h.levels;
    fresh = λ b lt e. let f = h.fresh b lt e in (bells b ∙ f.0, f.1);
    few =
        let a = sum_views taken_of views id v u at in
        let b = sum_views made_of views id v u at in
        let c : bells_up net now ≡ bells_up net words = ap sum (tabled_agree 0 (length net.banks) (bell net now) (bell net words) (λ y _. bells y)) in
        let e : taken_of u ≡ taken_of v = λ i. if live i then taken i else 0 in
        let f : made_of u ≡ made_of v = λ i. if live i then length (made i) else 0 in
        omega (arith, h.few, a, b, c, e, f);
    has = each_set (λ _. HasBells d w) views id u (λ j y _. h.has j y) (λ _. keep (h.has id v at on));
  }

  -- a look
  module _ (x : ℕ) (lt : x < n) (mine : holds v.shown (creditor_of net x) ≡ true) (size : length v.shown.sights ≡ n) (also : length v.shown.pending ≡ n) (alone : NoOther views id (creditor_of net x)) where
    -- what the look finds
    abbrev p : Payment
    p = ending (t x)

    -- what is kept after the look: it was seen, and no look is due any more
    abbrev seen_ledger : BellLedger
    seen_ledger = record w { seen = changed x p.value w.seen; pend = changed x false w.pend }

    -- a look keeps the rule of the bells
    pub rung_look : IsRung d t words (set views id (showing v (looked v.shown x p)))
    rung_look = record {
      ledger = seen_ledger;
      bells = h.bells;
      answered = λ y l. grind (arith, nat_tests, h.answered y l);
      lifted = λ y l. grind (arith, nat_tests, h.lifted y l, h.levels y l);
      levels = h.levels;
      fresh = λ b l e. let f = h.fresh b l e in (f.0, λ y m o. grind (arith, nat_tests, f.1 y m o));
      few =
          let a = sum_views taken_of views id v (showing v (looked v.shown x p)) at in
          let b = sum_views made_of views id v (showing v (looked v.shown x p)) at in
          omega (arith, h.few, a, b);
      has = each_set (λ _. HasBells d seen_ledger) views id (showing v (looked v.shown x p))
          (λ j u ne e o. grind (arith, nat_tests, h.has j u e o, alone j u ne e o))
          (λ _. grind (arith, nat_tests, get_or-set_at, get_or-set_other {A = ℕ}, get_or-set_other {A = Bool}, h.has id v at on, size, also));
    }

  -- a raise
  module _ (x : ℕ) (lt : x < n) (i : ℕ) (place : i ≡ position_of net x + 1) (to m : ℕ) (r : Raise) (mine : holds v.shown (debtor_of net x) ≡ true) (size : length v.shown.owes_ring ≡ n) (alone : NoOther views id (debtor_of net x)) where
    -- the raises with this one
    abbrev more : Traces
    more = pushed t x r

    -- the words after the store
    abbrev now : List ℕ
    now = set words i m

    -- what is kept after the raise: a ring is owed on the debt
    abbrev owing : BellLedger
    owing = record w { owed = changed x true w.owed }

    -- the store leaves each bell
    same_bell : (b : ℕ) → bell net now b ≡ bell net words b
    same_bell b = get_or-set_other words i (n + 1 + b) m 0 (λ e. absurd (omega (arith, e, place, within net x lt)))

    -- a raise keeps the rule of the bells
    pub rung_raise : ((y : ℕ) → (ending (t y)).value ≤ (ending (more y)).value) → IsRung d more now (set views id (showing v (raised v.shown x to)))
    rung_raise up = record {
      ledger = owing;
      bells = λ b l. omega (arith, h.bells b l, same_bell b);
      answered = λ y l. grind (arith, nat_tests, h.answered y l, same_bell (creditor_of net y));
      lifted = λ y l. grind (arith, h.lifted y l, same_bell (creditor_of net y));
      levels = λ y l. le_trans (h.levels y l) (up y);
      fresh = λ b l e. let f = h.fresh b l e in (same_bell b ∙ f.0, f.1);
      few =
          let u = showing v (raised v.shown x to) in
          let a = sum_views taken_of views id v u at in
          let b = sum_views made_of views id v u at in
          let c : bells_up net now ≡ bells_up net words = ap sum (tabled_agree 0 (length net.banks) (bell net now) (bell net words) (λ y _. same_bell y)) in
          let g : length u.shown.raises ≡ length v.shown.raises + 1 = length-append v.shown.raises _ in
          omega (arith, h.few, a, b, c, g, marks_grow_by_one n w.owed x lt, live_of v on, live_of u on);
      has = each_set (λ _. HasBells d owing) views id (showing v (raised v.shown x to))
          (λ j u ne e o. grind (arith, nat_tests, h.has j u e o, alone j u ne e o))
          (λ _. grind (arith, common_steps, h.has id v at on, size));
    }
