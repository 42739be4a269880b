-- A raise keeps the rule of a board.
use Rattle.pay_words.specs.Words.{unpaid}
use Rattle.pay_words.proofs.Traces.{ending_push}
use Rattle.pay_words.proofs.Views.{its}
use Rattle.pay_words.proofs.Tables.{set_both}
use Rattle.pay_words.proofs.Rung.{NoOther}
use Rattle.pay_words.proofs.Views.{allowed}
use Rattle.std.proofs.Common.{◌≡◌, ◌≢◌, ℕ, ◌+◌, ◌*◌, ◌<◌, ◌≤◌, List, [], ◌∷◌, ◌++◌, length, set, true, false, true≢false, refl, sym, ap, ◌∙◌, subst, arith, le_trans, le_of_eq, length-set, get_or-set_same, get_or-set_other, All, append_assoc}
use Rattle.std.specs.Prelude.{slice_index}
use Rattle.clear_core.proofs.Least.{part_le_least}
use mathlib.Core.Option.{none}
use mathlib.Core.Logic.{dite}
use native.Mathlib.Decide.{ℕ_discrete}
use Rattle.atomic_table.specs.Table.{Me, Allows, step}
use Rattle.clr_net.specs.Net.{Net, debtor_of, units_owed}
use Rattle.clear_core.specs.Clearing.{part, receipts, least}
use Rattle.clear_core.specs.declared.event.Raise.{Raise}
use Rattle.pay_words.specs.declared.payment.TheConstants.{STAMP}
use Rattle.pay_words.specs.declared.origin.Origin.{Origin}
use Rattle.pay_words.specs.declared.payment.Payment.{Payment}
use Rattle.pay_words.specs.declared.view.Shown.{Shown}
use Rattle.pay_words.specs.declared.view.View.{View}
use Rattle.pay_words.specs.Words.{word_of, payment_of}
use Rattle.pay_words.specs.Holding.{holds}
use Rattle.pay_words.specs.Sound.{IsSound}
use Rattle.pay_words.specs.Paying.{MayRaise, raised, a_raise}
use Rattle.pay_words.specs.Traces.{AreLawfulTraces, ending, raises_of, total}
use Rattle.pay_words.specs.BoardRule.{BoardHistory, Suits}
use Rattle.pay_words.specs.Positions.{position_of}
use Rattle.pay_words.specs.Steps.{Raises, showing}
use Rattle.pay_words.proofs.SideBySide.{one_place, within}
use Rattle.pay_words.proofs.Tables.{after_set, set_below, changed_else, changed_each}
use Rattle.pay_words.proofs.Traces.{pushed, stood_pushed, raises_of-push, raises_of-push_else}
use Rattle.pay_words.proofs.Lawful.{total_le, ending_here, ending_else, ending_rises, total_rises, lawful_push, seen_before}
use Rattle.pay_words.proofs.Views.{rule, kept_again, not_both}
use Rattle.pay_words.proofs.Rung.{rung_raise}
use Rattle.std.proofs.lemmas.List.Elements.{All-push}
use Rattle.pay_words.proofs.Lengths.{over_raised}

-- what a seat shows is sound after a raise within its estate
sound_raise : (s : Shown) (x to : ℕ) → IsSound s → to ≤ part s.net x (receipts s.net s.sights (debtor_of s.net x)) → to ≤ slice_index (least s.net) x
    → s.clock + 1 ≤ units_owed s.net → IsSound (raised s x to)
sound_raise s x to h within below low = assumption (
  after_set (λ z m. z < length s.net.debts → holds s (debtor_of s.net z) ≡ true → m ≤ part s.net z (receipts s.net s.sights (debtor_of s.net z))) s.paid x to (λ _ _. within) h.pays_within,
  set_below s.paid (least s.net) x to h.paid_below below,
  over_raised s x to h.over,
)

module _ (past : List Raise) (k : BoardHistory) (roll count : ℕ) (v : View) (x to : ℕ) (lt : x < length v.shown.net.debts)
    (h : AreLawfulTraces v.shown.net k.trace) (up : (ending (k.trace x)).value < to) where
  -- the network
  abbrev net : Net
  net = v.shown.net

  -- the raise
  abbrev r : Raise
  r = a_raise (v.shown.clock + 1) x to

  -- the history with this raise
  abbrev next : BoardHistory
  next = record k { trace = pushed k.trace x r }

  -- another seat's view suits still
  other_suits : (j : ℕ) (u : View) → Suits (its past v) k roll count j u
      → (holds u.shown (debtor_of net x) ≡ true → ⊥) → Suits (its past v) next roll count j u
  other_suits j u f away =
      let still = λ (y : ℕ) (i : holds u.shown (debtor_of net y) ≡ true). ending_else net k.trace h x lt r refl y (apart y i) in
      let pays = λ (y : ℕ) (l : y < length net.debts) (i : holds u.shown (debtor_of net y) ≡ true). f.pays y l i ∙ sym (still y i) in
      let told = λ (y : ℕ) (l : y < length net.debts) (i : holds u.shown (debtor_of net y) ≡ true). changed_else x
      (k.trace x ++ r ∷ []) k.trace y (apart y i) ∙ f.told y l i in
      let stood = λ (y : ℕ) (l : y < length net.debts). stood_pushed k.trace x r y _ _ (f.stood y l) in
      let floor = λ (y : ℕ) (l : y < length net.debts). le_trans (f.floor y l) (ending_rises net k.trace h x lt r refl up y) in
      let stamps = λ (y : ℕ) (l : y < length net.debts) (i : holds u.shown (debtor_of net y) ≡ true). le_trans
      (le_of_eq (ap (λ (q : Payment). q.stamp) (still y i))) (f.paid_by_clock y l i) in
      let clock : u.shown.clock ≤ total net next.trace = omega (arith, f.clock_low, total_rises net k.trace h x lt r refl up) in
      assumption (pays, told, stood, floor, stamps, clock, f)
    where
      apart : (y : ℕ) → holds u.shown (debtor_of net y) ≡ true → y ≢ x
      apart y i e = away (rw e at i)

  -- and so does the view of the seat that raises
  raised_suits : (id : ℕ) → v.shown.master ≡ false → holds v.shown (debtor_of net x) ≡ true → IsSound (raised v.shown x to)
      → Suits (its past v) k roll count id v → Suits (its past v) next roll count id (showing v (raised v.shown x to))
  raised_suits id plain mine sound f = record {
    net_is = f.net_is;
    sound = sound;
    mine = f.mine;
    pays = set_both (λ y a b. y < length net.debts → holds v.shown (debtor_of net y) ≡ true
        → record { value = a; stamp = b } ≡ ending (next.trace y))
        v.shown.paid v.shown.paid_stamps x to (v.shown.clock + 1) (omega (arith, lt, f.sound.over.paid))
        (omega (arith, lt, f.sound.over.paid_stamps))
        (λ _ _. sym (ending_here net k.trace h x lt r refl x refl))
        (λ y ne l i. f.pays y l i ∙ sym (ending_else net k.trace h x lt r refl y ne));
    told = rw plain (changed_each (λ y rs. y < length net.debts → holds v.shown (debtor_of net y) ≡ true
        → rs ≡ raises_of y k.base ++ raises_of y (v.shown.raises ++ r ∷ []))
        x (k.trace x ++ r ∷ []) k.trace
        (λ l i. rw (raises_of-push x v.shown.raises r refl, rw plain at (f.told x l i), append_assoc))
        (λ y ne l i. rw (raises_of-push_else y v.shown.raises r (λ e. ne (sym e))) (rw plain at (f.told y l i))));
    only = rw plain (All-push (λ s. (s.debt.0 < length net.debts) × (holds v.shown (debtor_of net s.debt.0) ≡ true))
        v.shown.raises r (rw plain at f.only) (lt, mine));
    stood = λ y l. stood_pushed k.trace x r y _ _ (f.stood y l);
    floor = λ y l. le_trans (f.floor y l) (ending_rises net k.trace h x lt r refl up y);
    seen_by_clock = λ y. omega (arith, f.seen_by_clock y);
    paid_by_clock = changed_each (λ y rs. y < length net.debts → holds v.shown (debtor_of net y) ≡ true
        → (ending rs).stamp ≤ v.shown.clock + 1) x (k.trace x ++ r ∷ []) k.trace
        (λ _ _. le_of_eq (ap (λ (q : Payment). q.stamp) (ending_push unpaid (k.trace x) r)))
        (λ y _ l i. omega (arith, f.paid_by_clock y l i));
    past_by_clock = λ i e l. omega (arith, f.past_by_clock i e l);
    late = All-push (λ s. All (λ p. p.stamp < s.stamp) past) v.shown.raises r f.late (λ i e l. omega (arith, f.past_by_clock i e l));
    clock_low = omega (arith, f.clock_low, total_rises net k.trace h x lt r refl up);
    leads = λ e. absurd (true≢false (sym e ∙ plain));
  }

-- the store of a raise that a seat may make, as the rule of the board knows it
pub raises : (d : Origin) (slots id : ℕ) (me : Me (Unit {0}) View) (i x to word : ℕ) → me.0.shown.net ≡ d.net
    → i ≡ position_of me.0.shown.net x + 1
    → word ≡ (me.0.shown.clock + 1) * STAMP + to → me.0.live ≡ true → to < STAMP
    → MayRaise me.0.shown.net me.0.shown x to
    → Allows (rule d) slots id me i (λ _. word)
    (λ _. Raises (step slots i word 0 none) me word)
raises d slots id me i x to word over at_i is on fits may = allowed d slots id me i (λ _. word)
    (λ _. Raises (step slots i word 0 none) me word) (λ _. showing me.0 (raised me.0.shown x to)) over (λ s h at.
    let k = h.history in
    let v = me.0 in
    let net = v.shown.net in
    let lt = may.debt in
    let low = within net x lt in
    let f = h.fits id v at on in
    let r : Raise = a_raise (v.shown.clock + 1) x to in
    let value : to ≡ (payment_of word).value = omega (arith, is, fits) in
    let paid : (ending (k.trace x)).value < to = omega (arith, may.more, ap (λ (q : Payment). q.value) (f.pays x lt may.debtor)) in
    let stamp : (ending (k.trace x)).stamp < v.shown.clock + 1 = omega (arith, f.paid_by_clock x lt may.debtor) in
    let below : to ≤ slice_index (least net) x = le_trans may.within (part_le_least net v.shown.sights x lt f.sound.sights_below) in
    let before = le_trans may.within (seen_before net k.trace h.lawful v.shown.sights v.shown.sight_stamps
    (v.shown.clock + 1) x f.sound.over.sights f.stood (λ y. omega (arith, f.seen_by_clock y))) in
    let lawful : AreLawfulTraces net (pushed k.trace x r) =
    lawful_push net k.trace h.lawful x lt r refl paid stamp before below (omega (arith, f.clock_low)) in
    let sound = sound_raise v.shown x to f.sound may.within below
    (omega (arith, f.clock_low, total_rises net k.trace h.lawful x lt r refl paid, total_le net (pushed k.trace x r) lawful)) in
    let alone : NoOther s.views id (debtor_of net x) =
    λ j u ne e t. not_both (its d.past v) k _ _ id j u v (debtor_of net x) ne f may.debtor (h.fits j u e t) in (
      kept_again (its d.past v) s.words (set s.words i word) s.views id _ v (showing v (raised v.shown x to))
          (pushed k.trace x r) h at on refl refl refl (length-set s.words i word)
          (get_or-set_other s.words i 0 word 0 (λ e. absurd (omega (arith, e, at_i))))
          (λ y l. dite (ℕ_discrete y x)
          (λ e. rw e (ap (slice_index (set s.words i word)) (sym at_i) ∙ get_or-set_same s.words i word 0 (omega (arith, h.size, low, at_i)) ∙ is
          ∙ ap word_of (sym (ending_here net k.trace h.lawful x lt r refl x refl))))
          (λ ne. get_or-set_other s.words i (position_of net y + 1) word 0
          (λ e. ne (one_place net y x l lt (omega (arith, e, at_i)))) ∙ h.stands y l
          ∙ ap word_of (sym (ending_else net k.trace h.lawful x lt r refl y ne))))
          lawful
          (λ j u ne e t g. other_suits d.past k _ _ v x to lt h.lawful paid j u g (alone j u ne e t))
          (λ f. raised_suits d.past k _ _ v x to lt h.lawful paid id may.not_the_master may.debtor sound f)
          (rung_raise (its d.past v) k.trace s.words s.views id v at on h.rung x lt i at_i to word r may.debtor
          f.sound.over.owes_ring alone (ending_rises net k.trace h.lawful x lt r refl paid)),
      λ y l e. let same : x ≡ y = one_place net x y lt l (omega (arith, e, at_i)) in
          subst (λ (z : ℕ × ℕ). (◌≡◌ {A = Me (Unit {0}) View} (showing v (raised v.shown x to), me.1)
          (showing v (raised v.shown z.0 z.1), me.1)) × IsSound (raised v.shown z.0 z.1))
          (λ i. (same i, value i)) (refl, sound),
    ))
