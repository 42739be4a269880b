-- A look keeps the rule of a board.
use Rattle.pay_words.proofs.Standing.{stands}
use Rattle.pay_words.proofs.Views.{its}
use Rattle.clr_net.specs.Net.{units_owed}
use Rattle.clear_core.specs.declared.event.Raise.{Raise}
use Rattle.pay_words.proofs.Tables.{set_both}
use Rattle.pay_words.proofs.Views.{allowed}
use Rattle.std.proofs.Common.{◌≡◌, ℕ, ◌+◌, ◌<◌, ◌≤◌, max, List, length, set, true, refl, sym, ap, ◌∙◌, subst, arith, le_trans, All}
use Rattle.std.proofs.lemmas.List.{set-get_or}
use Rattle.std.specs.Prelude.{slice_index}
use mathlib.Core.Option.{none}
use Rattle.atomic_table.specs.Table.{Me, Allows, step}
use Rattle.clr_net.specs.Net.{debtor_of, creditor_of}
use Rattle.clear_core.specs.Clearing.{least}
use Rattle.clear_core.proofs.Pay.{part_mono, receipts_mono}
use Rattle.pay_words.specs.declared.origin.Origin.{Origin}
use Rattle.pay_words.specs.declared.payment.Payment.{Payment}
use Rattle.pay_words.specs.declared.view.Shown.{Shown}
use Rattle.pay_words.specs.declared.view.View.{View}
use Rattle.pay_words.specs.Words.{payment_of}
use Rattle.pay_words.specs.Holding.{holds}
use Rattle.pay_words.specs.Sound.{IsSound}
use Rattle.pay_words.specs.Paying.{looked}
use Rattle.pay_words.specs.Traces.{Stood, ending, total}
use Rattle.pay_words.specs.BoardRule.{BoardHistory, Suits, MeetsRule}
use Rattle.pay_words.specs.Positions.{position_of}
use Rattle.pay_words.specs.Steps.{LookTells, Looks, showing}
use Rattle.pay_words.proofs.SideBySide.{one_place}
use Rattle.pay_words.proofs.Tables.{after_set, set_above, set_below}
use Rattle.pay_words.proofs.Traces.{ending_stood, stood_under}
use Rattle.pay_words.proofs.Lawful.{total_le}
use Rattle.pay_words.proofs.Views.{rule, kept_again, not_both}
use Rattle.pay_words.proofs.Rung.{rung_look}
use Rattle.pay_words.proofs.Lengths.{over_looked}

-- what a seat shows is sound after it has seen more
sound_look : (s : Shown) (x : ℕ) (p : Payment) → IsSound s → slice_index s.sights x ≤ p.value
    → p.value ≤ slice_index (least s.net) x → max s.clock p.stamp ≤ units_owed s.net → IsSound (looked s x p)
sound_look s x p h up below low =
    let within = λ (y : ℕ) (lt : y < length s.net.debts) (mine : holds s (debtor_of s.net y) ≡ true). le_trans (h.pays_within y lt mine)
    (part_mono s.net y _ _ (receipts_mono s.net s.sights (set s.sights x p.value) (debtor_of s.net y) (set_above s.sights x p.value up))) in
    assumption (within, set_below s.sights (least s.net) x p.value h.sights_below below, over_looked s x p h.over)

module _ (past : List Raise) (k : BoardHistory) (roll count id : ℕ) (v : View) (x : ℕ) where
  -- what the look finds
  abbrev found : Payment
  found = ending (k.trace x)

  -- the view suits the rule after a look at a payment that stood
  looked_suits : x < length v.shown.net.debts → found.stamp ≤ total v.shown.net k.trace
      → IsSound (looked v.shown x found) → Suits (its past v) k roll count id v
      → Suits (its past v) k roll count id (showing v (looked v.shown x found))
  looked_suits lt low sound f =
      let n : ℕ = length v.shown.net.debts in
      let clock : ℕ = max v.shown.clock found.stamp in
      let stood = set_both (λ z a b. z < n → Stood (k.trace z) a b) v.shown.sights v.shown.sight_stamps x
      found.value found.stamp (omega (arith, lt, f.sound.over.sights))
      (omega (arith, lt, f.sound.over.sight_stamps)) (λ _. ending_stood (k.trace x)) (λ z _. f.stood z) in
      let seen = after_set (λ z m. m ≤ clock) v.shown.sight_stamps x found.stamp (omega arith) (λ z. omega (arith, f.seen_by_clock z)) in
      let stamps : (y : ℕ) → y < n → holds v.shown (debtor_of v.shown.net y) ≡ true
      → (ending (k.trace y)).stamp ≤ clock = λ y l i. omega (arith, f.paid_by_clock y l i) in
      let past : All (λ r. r.stamp ≤ clock) past = λ i e l. omega (arith, f.past_by_clock i e l) in
      let most : clock ≤ total v.shown.net k.trace = omega (arith, f.clock_low, low) in
      assumption (stood, seen, stamps, past, most, f)

-- a look keeps the rule, and finds what its clauses say
pub looks : (d : Origin) (slots id : ℕ) (me : Me (Unit {0}) View) (i x : ℕ) → me.0.shown.net ≡ d.net
    → i ≡ position_of me.0.shown.net x + 1 → me.0.live ≡ true
    → x < length me.0.shown.net.debts → holds me.0.shown (creditor_of me.0.shown.net x) ≡ true
    → Allows (rule d) slots id me i (λ n. n)
    (Looks (step slots i 0 0 none) me)
looks d slots id me i x over place on lt to_me = allowed d slots id me i (λ n. n)
    (Looks (step slots i 0 0 none) me) (λ n. showing me.0 (looked me.0.shown x (payment_of n))) over (λ s h at.
    let k = h.history in
    let v = me.0 in
    let net = v.shown.net in
    let n : ℕ = slice_index s.words i in
    let f = h.fits id v at on in
    let p : Payment = ending (k.trace x) in
    let is : payment_of n ≡ p = ap (λ j. payment_of (slice_index s.words j)) place ∙ stands (its d.past v) s.words s.views h x lt in
    let seen : slice_index v.shown.sights x ≤ p.value = stood_under (k.trace x) (h.lawful.rise x lt) _ _ (f.stood x lt) in
    let low = h.lawful.low x lt in
    let sound = sound_look v.shown x p f.sound seen (h.lawful.most x lt) (omega (arith, f.clock_low, low, total_le net k.trace h.lawful)) in
    let told : LookTells v.shown x p = record {
      sound = sound;
      at_least_seen = seen;
      at_least_floor = f.floor x lt;
      below = h.lawful.most x lt;
      own = λ mine. sym (f.pays x lt mine);
    } in
    let after = subst (λ (q : Payment). MeetsRule (its d.past v) s.words
    (set s.views id (showing v (looked v.shown x q))) × LookTells v.shown x q) (sym is) (
      kept_again (its d.past v) s.words s.words s.views id _ v
          (showing v (looked v.shown x p)) k.trace h at on refl refl refl refl refl h.stands h.lawful (λ _ _ _ _ _ f. f)
          (λ f. looked_suits d.past k _ _ id v x lt low sound f)
          (rung_look (its d.past v) k.trace s.words s.views id v at on h.rung x lt to_me f.sound.over.sights f.sound.over.pending
          (λ j u ne e t. not_both (its d.past v) k _ _ id j u v (creditor_of net x) ne f to_me (h.fits j u e t))),
      told,
    ) in (
      rw (set-get_or s.words i 0) after.0,
      λ y l e. let same : x ≡ y = one_place net x y lt l (omega (arith, e, place)) in
          subst (λ (z : ℕ). (◌≡◌ {A = Me (Unit {0}) View} (showing v (looked v.shown x (payment_of n)), me.1)
          (showing v (looked v.shown z (payment_of n)), me.1)) × LookTells v.shown z (payment_of n)) same (refl, after.1),
    ))
