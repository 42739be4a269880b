-- A ring, a glance and a take keep the rule of a board.
use Rattle.std.proofs.lemmas.Grind.{common_steps}
use Rattle.std.proofs.lemmas.Bool.Decides.{nat_tests}
use Rattle.pay_words.proofs.Views.{its}
use Rattle.clear_core.specs.declared.event.Raise.{Raise}
use Rattle.std.proofs.Common.{zero-le}
use Rattle.pay_words.proofs.Views.{each_set, allowed}
use Rattle.pay_words.proofs.Bells.{live_of}
use Rattle.std.proofs.Common.{◌≡◌, ◌≢◌, ℕ, ◌+◌, ◌<◌, ◌≤◌, ◌==◌, List, length, set, Bool, true, false, true≢false, inl, inr, refl, sym, ap, ◌∙◌, subst, ⊎_elim, arith, length-set, get_or-set_same, get_or-set_other}
use Rattle.std.specs.Prelude.{slice_index, if◌then◌else◌, ◌&&◌, ◌||◌, not}
use Rattle.std.proofs.lemmas.Bool.{eqb-true, eq-eqb, and_parts, and_from, cond-true}
use Rattle.std.proofs.lemmas.List.{set-get_or}
use mathlib.Core.Option.{some, none}
use mathlib.Core.Logic.{dite}
use native.Mathlib.Decide.{ℕ_discrete}
use lib.ListN.{get_elem?}
use Rattle.atomic_table.specs.Table.{State, Me, Allows, step}
use Rattle.atomic_table.proofs.Lists.{set_again}
use Rattle.clr_net.specs.Limits.{IsNetwork}
use Rattle.clr_net.specs.Net.{Net, debtor_of, creditor_of}
use Rattle.pay_words.specs.declared.origin.Origin.{Origin}
use Rattle.pay_words.specs.declared.payment.Payment.{Payment}
use Rattle.pay_words.specs.declared.view.Shown.{Shown}
use Rattle.pay_words.specs.declared.view.View.{View}
use Rattle.pay_words.specs.Traces.{Traces, ending}
use Rattle.clear_core.specs.Raised.{is_marked}
use Rattle.pay_words.specs.Holding.{holds}
use Rattle.pay_words.specs.Sound.{IsSound}
use Rattle.pay_words.specs.Ringing.{IsCalm, OwesRing, rung, took}
use Rattle.pay_words.specs.BoardRule.{BoardHistory, Suits, MeetsRule}
use Rattle.pay_words.specs.Bells.{BellLedger, HasBells, IsCalled, IsRung, bell, taken_of, made_of}
use Rattle.pay_words.specs.Positions.{position_of}
use Rattle.pay_words.specs.Steps.{TakeTells, Rings, Glances, Takes, after_take, showing}
use Rattle.pay_words.proofs.Tables.{tabled_at, length-tabled, changed}
use Rattle.pay_words.proofs.Bells.{sum_views, sum_changed, one_less}
use Rattle.pay_words.proofs.Rung.{NoOther}
use Rattle.pay_words.proofs.SideBySide.{within}
use Rattle.pay_words.proofs.Views.{rule, kept_again, not_both}

-- the bank that a ring is owed to is one of the network
pub bank_of_ring : (s : Shown) (b : ℕ) → IsNetwork s.net → OwesRing s b → b < length s.net.banks
bank_of_ring s b network owes =
    let is = eqb-true (creditor_of s.net owes.0) b (and_parts (is_marked s.owes_ring owes.0) (creditor_of s.net owes.0 == b) owes.3).1 in
    subst (λ (c : ℕ). c < length s.net.banks) is (network.each_debt owes.0 owes.1).creditor_known

-- what a seat shows is sound after a ring
pub sound_rung : (s : Shown) (b : ℕ) → IsSound s → IsSound (rung s b)
sound_rung s b h = assumption (length-tabled (length s.net.debts) (λ x. is_marked s.owes_ring x && not (creditor_of s.net x == b)), h)

-- and after a take
pub sound_took : (s : Shown) (b : ℕ) → IsSound s → IsSound (took s b)
sound_took s b h =
    assumption (length-tabled (length s.net.debts) (λ x. is_marked s.pending x || (creditor_of s.net x == b)), length-set s.fresh b false ∙ h.over.fresh, h)

-- the words after a store of m at the bell of the bank b, which is the word i
module _ (net : Net) (words : List ℕ) (b i m : ℕ) (place : i ≡ length net.debts + 1 + b) where
  -- the bell that was stored has the stored word
  pub bell_here : i < length words → (c : ℕ) → c ≡ b → bell net (set words i m) c ≡ m
  bell_here lt c e = let p : length net.debts + 1 + c ≡ i = omega (arith, e, place) in ap (slice_index (set words i m)) p ∙ get_or-set_same words i m 0 lt

  -- any other bell has what it had
  pub bell_else : (c : ℕ) → c ≢ b → bell net (set words i m) c ≡ bell net words c
  bell_else c ne = get_or-set_other words i (length net.debts + 1 + c) m 0 (λ e. ne (omega (arith, e, place)))

  -- and so have the words before the bells
  pub low_still : (x : ℕ) → x ≤ length net.debts → slice_index (set words i m) x ≡ slice_index words x
  low_still x le = get_or-set_other words i x m 0 (λ e. absurd (omega (arith, e, place, le)))

module _ (past : List Raise) (t : Traces) (words : List ℕ) (views : List View) (id : ℕ) (v : View)
    (at : get_elem? views id ≡ some v) (on : v.live ≡ true) (h : IsRung (its past v) t words views)
    (b i : ℕ) (place : i ≡ length v.shown.net.debts + 1 + b) (big : i < length words) (lt : b < length v.shown.net.banks) where
  -- the network
  abbrev net : Net
  net = v.shown.net

  -- how many debts there are
  abbrev n : ℕ
  n = length v.shown.net.debts

  -- what is kept of the bells
  abbrev w : BellLedger
  w = h.ledger

  -- a ring
  module _ (alone : (x : ℕ) → holds v.shown (debtor_of net x) ≡ true → NoOther views id (debtor_of net x)) where
    -- the debts whose ring this store answers
    abbrev answers : ℕ → Bool
    answers x = holds v.shown (debtor_of net x) && (creditor_of net x == b)

    -- what is kept after the ring: no ring is owed on these debts
    abbrev rung_ledger : BellLedger
    rung_ledger = record w { owed = λ x. if answers x then false else w.owed x }

    -- the words after the ring
    abbrev now : List ℕ
    now = set words i 1

    -- a ring that is owed keeps the rule of the bells
    rung_ring : (x : ℕ) → x < n → holds v.shown (debtor_of net x) ≡ true → creditor_of net x ≡ b
        → is_marked v.shown.owes_ring x ≡ true → IsRung (its past v) t now (set views id (showing v (rung v.shown b)))
    rung_ring x l mine is owing = record {
      ledger = rung_ledger;
      bells = λ c l'. grind (arith, h.bells c l', bell_here net words b i 1 place big c, bell_else net words b i 1 place c);
      answered = λ y l'. grind (
        arith,
        nat_tests,
        h.answered y l',
        bell_here net words b i 1 place big (creditor_of net y),
        bell_else net words b i 1 place (creditor_of net y),
      );
      lifted = λ y l'. grind (
        arith,
        nat_tests,
        h.lifted y l',
        bell_here net words b i 1 place big (creditor_of net y),
        bell_else net words b i 1 place (creditor_of net y),
      );
      levels = h.levels;
      fresh = λ c l' e. let f = h.fresh c l' e in
          (dite (ℕ_discrete c b) (λ i'. bell_here net words b i 1 place big c i') (λ ne. bell_else net words b i 1 place c ne ∙ f.0), f.1);
      few =
          let u = showing v (rung v.shown b) in
          let more = sum_changed (length net.banks) (bell net words) (bell net now) b lt (bell_else net words b i 1 place) in
          let was : w.owed x ≡ true = sym ((h.has id v at on).owed x l mine) ∙ owing in
          let here : answers x ≡ true = and_from (holds v.shown (debtor_of net x)) (creditor_of net x == b) mine (eq-eqb (creditor_of net x) b is) in
          let less = one_less n w.owed rung_ledger.owed x l was (cond-true (answers x) false (w.owed x) here) (λ y e. grind (arith, e)) in
          omega (arith, h.few, sum_views taken_of views id v u at, sum_views made_of views id v u at, more, bell_here net words b i 1 place big b refl, less);
      has = each_set (λ _. HasBells (its past v) rung_ledger) views id (showing v (rung v.shown b))
          (λ j u ne e o. let away = λ (y : ℕ) (a : holds v.shown (debtor_of net y) ≡ true). alone y a j u ne e
          o in grind (arith, h.has j u e o, away))
          (λ _. grind (
            arith,
            h.has id v at on,
            λ (y : ℕ). tabled_at n
                (λ x. is_marked v.shown.owes_ring x && not (creditor_of net x == b)) y false,
          ));
    }

  -- a take that finds the bell up
  module _ (mine : holds v.shown b ≡ true) (alone : NoOther views id b) (long : length v.shown.fresh ≡ length net.banks) where
    -- what is kept after the take: a look is due at each debt that is owed to the bank
    abbrev took_ledger : BellLedger
    took_ledger = record w { pend = λ x. if creditor_of net x == b then true else w.pend x; fresh = changed b false w.fresh }

    -- the words with the bell taken down
    abbrev down : List ℕ
    down = set words i 0

    -- such a take keeps the rule of the bells
    rung_take : bell net words b ≡ 1 → IsRung (its past v) t down (set views id (showing v (took v.shown b)))
    rung_take raised = record {
      ledger = took_ledger;
      bells = λ c l'. grind (arith, h.bells c l', bell_here net words b i 0 place big c, bell_else net words b i 0 place c);
      answered = λ y l'. grind (arith, nat_tests, h.answered y l', bell_else net words b i 0 place (creditor_of net y));
      lifted = λ y l'. grind (arith, nat_tests, h.lifted y l', bell_else net words b i 0 place (creditor_of net y));
      levels = h.levels;
      fresh = λ c l' e.
          let f = h.fresh c l' (grind (arith, nat_tests, e)) in
          let ne : c ≢ b = λ i'. grind (arith, nat_tests, e, i') in
          (bell_else net words b i 0 place c ne ∙ f.0, λ y m o. grind (arith, nat_tests, f.1 y m o, o, ne));
      few =
          let u = showing v (took v.shown b) in
          let less = sum_changed (length net.banks) (bell net words) (bell net down) b lt (bell_else net words b i 0 place) in
          omega (
            arith,
            h.few,
            sum_views taken_of views id v u at,
            sum_views made_of views id v u at,
            less,
            bell_here net words b i 0 place big b refl,
            raised,
            live_of v on,
            live_of u on,
          );
      has = each_set (λ _. HasBells (its past v) took_ledger) views id (showing v (took v.shown b))
          (λ j u ne e o. grind (arith, nat_tests, h.has j u e o, alone j u ne e o))
          (λ _. grind (arith, common_steps, h.has id v at on, long, λ (y : ℕ). tabled_at n (λ x. is_marked v.shown.pending x || (creditor_of net x == b)) y false));
    }

-- one step at a bell, which leaves the other words
struck_kept : (past : List Raise) (s : State (Unit {0}) View) (id : ℕ) (v w : View) (h : MeetsRule (its past v) s.words s.views) (b i m : ℕ) → i ≡ length v.shown.net.debts + 1 + b
    → get_elem? s.views id ≡ some v → v.live ≡ true → w.live ≡ v.live → w.shown.banks ≡ v.shown.banks → w.shown.master ≡ v.shown.master
    → (Suits (its past v) h.history (slice_index s.words 0) (length s.views) id v
    → Suits (its past v) h.history (slice_index s.words 0) (length s.views) id w)
    → IsRung (its past v) h.history.trace (set s.words i m) (set s.views id w) → MeetsRule (its past v) (set s.words i m) (set s.views id w)
struck_kept past s id v w h b i m place at on live banks chief mine rings =
    kept_again (its past v) s.words (set s.words i m) s.views id
    (slice_index s.words 0) v w h.history.trace h at on live banks chief (length-set s.words i m)
    (low_still v.shown.net s.words b i m place 0 zero-le)
    (λ x l. low_still v.shown.net s.words b i m place (position_of v.shown.net x + 1)
    (omega (arith, within v.shown.net x l)) ∙ h.stands x l)
    h.lawful (λ _ _ _ _ _ f. f) mine rings

-- a ring keeps the rule of the board
pub rings : (d : Origin) (slots id : ℕ) (me : Me (Unit {0}) View) (i b : ℕ) → me.0.shown.net ≡ d.net
    → i ≡ length me.0.shown.net.debts + 1 + b → me.0.live ≡ true → OwesRing me.0.shown b
    → Allows (rule d) slots id me i (λ _. 1) (λ _. Rings (step slots i 1 0 none) me 1)
rings d slots id me i b over place on owes = allowed d slots id me i (λ _. 1)
    (λ _. Rings (step slots i 1 0 none) me 1) (λ _. showing me.0 (rung me.0.shown b)) over (λ s h at.
    let v = me.0 in
    let f = h.fits id v at on in
    let both = and_parts (is_marked v.shown.owes_ring owes.0) (creditor_of v.shown.net owes.0 == b) owes.3 in
    let lt = bank_of_ring v.shown b h.network owes in
    let alone : (y : ℕ) → holds v.shown (debtor_of v.shown.net y) ≡ true → NoOther s.views id (debtor_of v.shown.net y) =
    λ y m j u ne e t. not_both (its d.past v) h.history _ _ id j u v (debtor_of v.shown.net y) ne f m (h.fits j u e t) in (
      struck_kept d.past s id v _ h b i 1 place at on refl refl refl
          (λ f. let sound = sound_rung v.shown b f.sound in assumption (sound, f))
          (rung_ring d.past h.history.trace s.words s.views id v at on h.rung b i place
          (omega (arith, h.size, place, lt)) lt alone owes.0 owes.1 owes.2
          (eqb-true (creditor_of v.shown.net owes.0) b both.1) both.0),
      λ c e. let same : b ≡ c = omega (arith, e, place) in
          subst (λ (z : ℕ). ◌≡◌ {A = Me (Unit {0}) View} (showing v (rung v.shown b), me.1) (showing v (rung v.shown z), me.1)) same refl,
    ))

-- what a take tells
take_tells : (past : List Raise) (k : BoardHistory) (roll count id : ℕ) (v : View) (words : List ℕ) (views : List View) (b i : ℕ) → i ≡ length v.shown.net.debts + 1 + b → b < length v.shown.net.banks → get_elem? views id ≡ some v
    → v.live ≡ true → holds v.shown b ≡ true → IsRung (its past v) k.trace words views
    → Suits (its past v) k roll count id v → TakeTells v.shown b (slice_index words i)
take_tells past k roll count id v words views b i place lt at on mine h f = rw place (record {
  up_or_down = h.bells b lt;
  up_if_fresh = λ e. (h.fresh b lt (sym (g.fresh b lt mine) ∙ e)).0;
  seen_floor = λ down calm x l is. ⊎_elim
      (λ (a : w.level x ≤ w.seen x). omega (arith, a, g.level x l, g.seen x l (held x is)))
      (λ (c : IsCalled v.shown.net words w x). absurd (not_called down calm x l is c)) (h.lifted x l);
  seen_all = λ down calm all none x l is.
      let owner = all (debtor_of v.shown.net x) (f.sound.network.each_debt x l).debtor_known in ⊎_elim
      (λ (a : w.seen x ≡ (ending (k.trace x)).value). g.seen x l (held x is) ∙ a ∙ sym (ap (λ (p : Payment). p.value) (f.pays x l owner)))
      (⊎_elim (λ (c : IsCalled v.shown.net words w x). absurd (not_called down calm x l is c))
      (λ (r : w.owed x ≡ true). absurd (true≢false (sym r ∙ sym (g.owed x l owner) ∙ none x l owner)))) (h.answered x l);
})
  where
    w : BellLedger
    w = h.ledger

    g : HasBells (its past v) h.ledger v
    g = h.has id v at on

    held : (x : ℕ) → creditor_of v.shown.net x ≡ b → holds v.shown (creditor_of v.shown.net x) ≡ true
    held x is = ap (holds v.shown) is ∙ mine

    not_called : bell v.shown.net words b ≡ 0 → IsCalm v.shown b → (x : ℕ) → x < length v.shown.net.debts
        → creditor_of v.shown.net x ≡ b → IsCalled v.shown.net words h.ledger x → ⊥
    not_called down calm x l is (inl e) = absurd (omega (arith, down, e, ap (bell v.shown.net words) is))
    not_called down calm x l is (inr e) = absurd (true≢false (sym e ∙ sym (g.pend x l (held x is)) ∙ calm x l is))

-- a step that leaves its word and its view as they are
unmoved : (d : Origin) (s : State (Unit {0}) View) (id : ℕ) (v : View) (i : ℕ) → MeetsRule d s.words s.views → get_elem? s.views id ≡ some v → MeetsRule d (set s.words i (slice_index s.words i)) (set s.views id v)
unmoved d s id v i h at = rw (set-get_or s.words i 0, set_again s.views id v at) h

-- a load of a bell keeps the rule, and tells what a take does
pub glances : (d : Origin) (slots id : ℕ) (me : Me (Unit {0}) View) (i b : ℕ) → me.0.shown.net ≡ d.net
    → i ≡ length me.0.shown.net.debts + 1 + b → b < length me.0.shown.net.banks → me.0.live ≡ true → holds me.0.shown b ≡ true
    → Allows (rule d) slots id me i (λ n. n) (Glances (step slots i 0 0 none) me)
glances d slots id me i b over place lt on mine = allowed d slots id me i (λ n. n)
    (Glances (step slots i 0 0 none) me) (λ _. me.0) over (λ s h at.
    let told = take_tells d.past h.history _ _ id me.0 s.words s.views b i place lt at on mine h.rung (h.fits id me.0 at on) in (
      unmoved (its d.past me.0) s id me.0 i h at,
      (
        refl,
        λ c e. let same : b ≡ c = omega (arith, e, place) in subst (λ (z : ℕ). TakeTells me.0.shown z (slice_index s.words i)) same told,
      ),
    ))

-- a take keeps the rule, and tells what was known of the bell
pub takes : (d : Origin) (slots id : ℕ) (me : Me (Unit {0}) View) (i b : ℕ) → me.0.shown.net ≡ d.net
    → i ≡ length me.0.shown.net.debts + 1 + b → b < length me.0.shown.net.banks → me.0.live ≡ true → holds me.0.shown b ≡ true
    → Allows (rule d) slots id me i (λ _. 0) (Takes (step slots i 0 0 none) me)
takes d slots id me i b over place lt on mine = allowed d slots id me i (λ _. 0) (Takes (step slots i 0 0 none) me)
    (λ n. showing me.0 (after_take me.0.shown b n)) over (λ s h at.
    let v = me.0 in
    let f = h.fits id v at on in
    let n : ℕ = slice_index s.words i in
    let tells = take_tells d.past h.history _ _ id v s.words s.views b i place lt at on mine h.rung f in
    let alone : NoOther s.views id b = λ j u ne e t. not_both (its d.past v) h.history _ _ id j u v b ne f mine (h.fits j u e t) in (
      dite (ℕ_discrete n 0)
          (λ e. subst (λ (m : ℕ × View). MeetsRule (its d.past v) (set s.words i m.0) (set s.views id m.1))
          (λ a. (e a, ap (λ (m : ℕ). showing v (after_take v.shown b m)) (sym e) a)) (unmoved (its d.past v) s id v i h at))
          (λ ne.
          let one : n ≡ 1 = omega (arith, ne, tells.up_or_down) in
          subst (λ (m : ℕ). MeetsRule (its d.past v) (set s.words i 0) (set s.views id (showing v (after_take v.shown b m)))) (sym one)
          (struck_kept d.past s id v _ h b i 0 place at on refl refl refl
          (λ f. let sound = sound_took v.shown b f.sound in assumption (sound, f))
          (rung_take d.past h.history.trace s.words s.views id v at on h.rung b i place
          (omega (arith, h.size, place, lt)) lt mine alone f.sound.over.fresh (ap (slice_index s.words) (sym place) ∙ one)))),
      λ c e. let same : b ≡ c = omega (arith, e, place) in
          subst (λ (z : ℕ). (◌≡◌ {A = Me (Unit {0}) View} (showing v (after_take v.shown b n), me.1)
          (showing v (after_take v.shown z n), me.1)) × TakeTells v.shown z n) same (refl, tells),
    ))
