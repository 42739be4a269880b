-- The master takes a seat back.
use Rattle.pay_words.proofs.Views.{its, got}
use Rattle.pay_words.specs.Sound.{PaysWithin}
use Rattle.std.proofs.lemmas.Bool.{cond_both}
use Rattle.pay_words.proofs.Views.{each_set, at_its, Keeps}
use Rattle.pay_words.proofs.Bells.{live_of}
use Rattle.std.proofs.Common.{◌≡◌, ◌≢◌, ℕ, ◌<◌, ◌≤◌, max, List, [], ◌++◌, length, set, Bool, true, false, true≢false, refl, sym, ap, ◌∙◌, subst, ⊎_elim, arith, le_of_eq, length-set, append_assoc, All}
use Rattle.std.specs.Prelude.{slice_index, if◌then◌else◌, ◌||◌}
use Rattle.std.proofs.lemmas.Bool.{cases_Bool, cond-false, or_left, or_right, false_from_ne_true}
use Rattle.std.proofs.lemmas.List.{append-nil}
use mathlib.Core.Option.{some, some-injective}
use lib.ListN.{get_elem?}
use Rattle.atomic_table.specs.Table.{Joins}
use Rattle.atomic_table.proofs.Lists.{set_here, set_else}
use Rattle.clr_net.specs.Amounts.{IsAtMost}
use Rattle.clr_net.specs.Net.{Net, debtor_of, creditor_of, units_owed}
use Rattle.clear_core.specs.Clearing.{part, receipts, least}
use Rattle.clear_core.specs.declared.event.Raise.{Raise}
use Rattle.pay_words.specs.declared.origin.Origin.{Origin}
use Rattle.pay_words.specs.declared.payment.Payment.{Payment}
use Rattle.pay_words.specs.declared.view.Shown.{Shown}
use Rattle.pay_words.specs.declared.view.View.{View}
use Rattle.clear_core.specs.Raised.{is_marked}
use Rattle.pay_words.specs.Holding.{holds}
use Rattle.pay_words.specs.Sound.{IsSound}
use Rattle.pay_words.specs.Seating.{rejoined, rejoined_over}
use Rattle.pay_words.specs.Ringing.{OwesNoRing}
use Rattle.pay_words.specs.Traces.{Traces, Stood, ending, raises_of}
use Rattle.pay_words.specs.BoardRule.{BoardHistory, Leads, Suits, Sits, own_raises}
use Rattle.pay_words.specs.Bells.{BellLedger, HasBells, IsRung, taken_of, made_of}
use Rattle.pay_words.specs.Steps.{both_of, nobody}
use Rattle.pay_words.proofs.Traces.{raises_of-append, raises_of-none}
use Rattle.pay_words.proofs.Marks.{either_marked, marked, chosen_second, chosen_first, chosen_each, chosen_most, receipts_agree}
use Rattle.pay_words.proofs.Views.{rule, sits_set, its_raises}
use Rattle.pay_words.proofs.Bells.{sum_views}
use Rattle.std.proofs.Common.{length-append}
use Rattle.std.proofs.lemmas.List.Elements.{All-nil, All-append}
use Rattle.pay_words.proofs.Lengths.{over_rejoined}

module _ (net : Net) (s t : Shown) where
  -- what the two seats show together
  abbrev both : Shown
  both = rejoined_over net s t

  -- the master holds what it held before
  pub held_first : (b : ℕ) → b < length net.banks → holds s b ≡ true → holds both b ≡ true
  held_first b lt e = marked (length net.banks) (λ c. holds s c || holds t c) b lt (or_left (holds s b) (holds t b) e)

  -- and what the seat held that came back
  pub held_second : (b : ℕ) → b < length net.banks → holds t b ≡ true → holds both b ≡ true
  held_second b lt e = marked (length net.banks) (λ c. holds s c || holds t c) b lt (or_right (holds s b) (holds t b) e)

  -- what it holds and that seat did not hold, it held before
  first_holds : (b : ℕ) → holds both b ≡ true → holds t b ≡ false → holds s b ≡ true
  first_holds = either_marked (length net.banks) s.banks t.banks

  module _ (x : ℕ) (lt : x < length net.debts) where
    -- what a seat shows of a debt, to its debtor
    abbrev Owed : (ℕ → ℕ → Bool → ℕ → Type 0) → Shown → List ℕ → Type 0
    Owed F u floor = F (slice_index u.paid x) (slice_index u.paid_stamps x)
        (is_marked u.owes_ring x) (slice_index floor x)

    -- and to its creditor
    abbrev Seen : (ℕ → ℕ → Bool → Type 0) → Shown → Type 0
    Seen F u = F (slice_index u.sights x) (slice_index u.sight_stamps x) (is_marked u.pending x)

    -- the two show of a debt what the one shows that has its debtor
    by_debtor : (F : ℕ → ℕ → Bool → ℕ → Type 0) → (holds t (debtor_of net x) ≡ false → Owed F s s.floor)
        → (holds t (debtor_of net x) ≡ true → Owed F t t.paid) → Owed F both both.floor
    by_debtor F f g = ⊎_elim (λ (e : holds t (debtor_of net x) ≡ true). simp chosen_second (g e))
        (λ (e : holds t (debtor_of net x) ≡ false). simp chosen_first (f e)) (cases_Bool (holds t (debtor_of net x)))

    -- or its creditor
    by_creditor : (F : ℕ → ℕ → Bool → Type 0) → (holds t (creditor_of net x) ≡ false → Seen F s)
        → (holds t (creditor_of net x) ≡ true → Seen F t) → Seen F both
    by_creditor F f g = ⊎_elim (λ (e : holds t (creditor_of net x) ≡ true). simp chosen_second (g e))
        (λ (e : holds t (creditor_of net x) ≡ false). simp chosen_first (f e)) (cases_Bool (holds t (creditor_of net x)))

-- the master with a seat's banks is sound
pub sound_both : (s t : Shown) → t.net ≡ s.net → IsSound s → IsSound t → IsSound (rejoined s t)
sound_both s t e f g =
    let n : ℕ = length s.net.debts in
    let gets : ℕ → Bool = λ x. holds t (creditor_of s.net x) in
    let u : Shown = rejoined s t in
    let theirs : PaysWithin (record t { net = s.net }) = rw e at g.pays_within in
    let within : PaysWithin u = λ x lt m.
    let b = debtor_of s.net x in
    by_debtor s.net s t x lt (λ a _ _ _. a ≤ part s.net x (receipts s.net u.sights b))
    (λ out. rw (receipts_agree s.net u.sights s.sights b (λ y l i. chosen_first 0 n gets s.sights t.sights y l (ap (holds t) i ∙ out)))
    (f.pays_within x lt (first_holds s.net s t b m out)))
    (λ h. rw (receipts_agree s.net u.sights t.sights b (λ y l i. chosen_second 0 n gets s.sights t.sights y l (ap (holds t) i ∙ h)))
    (theirs x lt h)) in
    let sights : IsAtMost t.sights (least s.net) = rw e at g.sights_below in
    let paid : IsAtMost t.paid (least s.net) = rw e at g.paid_below in
    let clock : u.clock ≤ units_owed s.net = omega (arith, f.clock_below, g.clock_below, ap units_owed e) in
    assumption (
      over_rejoined s.net s t refl,
      within,
      chosen_most n gets s.sights t.sights (slice_index (least s.net)) f.sights_below sights,
      chosen_most n (λ x. holds t (debtor_of s.net x)) s.paid t.paid (slice_index (least s.net)) f.paid_below paid,
      clock,
      f,
    )

module _ (past : List Raise) (k : BoardHistory) (roll count id other : ℕ) (v w : View) (chief : v.shown.master ≡ true)
    (plain : w.shown.master ≡ false)
    (f : Suits (its past v) k roll count id v) (g : Suits (its past v) k roll count other w) where
  -- the origin of the board
  abbrev d : Origin
  d = its past v

  -- what the master shows
  abbrev s : Shown
  s = v.shown

  -- what the seat shows
  abbrev t : Shown
  t = w.shown

  -- the history with the seat's banks and raises handed to the master
  abbrev next : BoardHistory
  next = record k { owner = λ b. if holds t b then id else k.owner b; base = k.base ++ t.raises }

  -- its raises are of its own debts
  none_of : (x : ℕ) → holds t (debtor_of s.net x) ≡ false → raises_of x t.raises ≡ []
  none_of x out = raises_of-none x t.raises (λ i e l is. absurd (true≢false
      (sym (its_raises d k roll count other w g plain i e l).1 ∙ ap (λ (y : ℕ). holds t (debtor_of s.net y)) is ∙ out)))

  -- the master with the banks that come back
  both_suits : IsSound (rejoined s t) → Suits d next roll count id (both_of v w)
  both_suits sound = record {
    net_is = f.net_is;
    sound = sound;
    mine = λ b m. cond_both (holds t b) id (k.owner b) (λ j. j ≡ id) (λ _. refl)
        (λ out. f.mine b (first_holds s.net s t b m out));
    pays = λ x lt m. by_debtor s.net s t x lt (λ a b _ _. record { value = a; stamp = b } ≡ ending (k.trace x))
        (λ out. f.pays x lt (first_holds s.net s t _ m out)) (g.pays x lt);
    told = λ x lt m. simp (chief, raises_of-append, append-nil)
        (by_debtor s.net s t x lt (λ _ _ _ _. k.trace x ≡ raises_of x k.base ++ raises_of x t.raises)
        (λ out. simp (none_of x out) (simp chief at (f.told x lt (first_holds s.net s t _ m out))))
        (λ h. simp plain at (g.told x lt h)));
    only = rw chief (All-nil _);
    stood = λ x lt. by_creditor s.net s t x lt (λ a b _. Stood (k.trace x) a b) (λ _. f.stood x lt) (λ _. g.stood x lt);
    floor = λ x lt. by_debtor s.net s t x lt (λ _ _ _ m. m ≤ (ending (k.trace x)).value) (λ _. f.floor x lt)
        (λ h. le_of_eq (ap (λ (p : Payment). p.value) (g.pays x lt h)));
    seen_by_clock = chosen_most (length s.net.debts) (λ x. holds t (creditor_of s.net x)) s.sight_stamps t.sight_stamps
        (λ _. max s.clock t.clock) (λ x. omega (arith, f.seen_by_clock x)) (λ x. omega (arith, g.seen_by_clock x));
    paid_by_clock = λ x lt m. by_debtor s.net s t x lt (λ _ _ _ _. (ending (k.trace x)).stamp ≤ max s.clock t.clock)
        (λ out. omega (arith, f.paid_by_clock x lt (first_holds s.net s t _ m out))) (λ h. omega (arith, g.paid_by_clock x lt h));
    past_by_clock = λ i e l. omega (arith, f.past_by_clock i e l);
    late = All-append (λ r. All (λ p. p.stamp < r.stamp) past) s.raises t.raises f.late g.late;
    clock_low = omega (arith, f.clock_low, g.clock_low);
    leads = λ e. let l = f.leads e in (
      l.0,
      ap (λ (rs : List Raise). rs ++ t.raises) l.1
          ∙ append_assoc past s.raises t.raises,
      l.2,
      l.3,
      l.4,
    );
  }

  -- the others do not hold what comes back
  third_suits : (j : ℕ) (u : View) → j ≢ id → j ≢ other → Suits d k roll count j u → Suits d next roll count j u
  third_suits j u away far a =
      let mine : (b : ℕ) → holds u.shown b ≡ true → next.owner b ≡ j = λ b e. cond-false (holds t b) id (k.owner b) (outside b e) ∙ a.mine b e in
      let told : (x : ℕ) → x < length s.net.debts → holds u.shown (debtor_of s.net x) ≡ true
      → k.trace x ≡ raises_of x next.base ++ raises_of x (own_raises u.shown.master u.shown.raises) =
      λ x lt e. simp (raises_of-append, none_of x (outside _ e), append-nil) (a.told x lt e) in
      let leads : Leads d next roll count j u = λ e. absurd (away ((a.leads e).0 ∙ sym (f.leads chief).0)) in
      assumption (mine, told, leads, a)
    where
      outside : (b : ℕ) → holds u.shown b ≡ true → holds t b ≡ false
      outside b e = false_from_ne_true (holds t b) (λ h. far (sym (a.mine b e) ∙ g.mine b h))

-- the bells come back with their banks
module _ (past : List Raise) (t : Traces) (words : List ℕ) (views : List View) (id other : ℕ) (v w : View)
    (h : IsRung (its past v) t words views)
    (paid : (x : ℕ) → x < length v.shown.net.debts → holds w.shown (debtor_of v.shown.net x) ≡ true
    → slice_index w.shown.paid x ≡ (ending (t x)).value)
    (calm : (x : ℕ) → x < length v.shown.net.debts → holds w.shown (debtor_of v.shown.net x) ≡ true
    → is_marked w.shown.owes_ring x ≡ false) where
  -- the network
  abbrev net : Net
  net = v.shown.net

  -- the debts whose debtor comes back
  abbrev back : ℕ → Bool
  back x = holds w.shown (debtor_of net x)

  -- the levels before
  abbrev lower : BellLedger
  lower = h.ledger

  -- the levels after: that of a debt that comes back is what is paid on it
  abbrev higher : BellLedger
  higher = record lower { level = λ x. if back x then (ending (t x)).value else lower.level x }

  -- the master with the seat has what the ledger knows of the bells of both
  both_has : HasBells (its past v) lower v → HasBells (its past v) lower w → HasBells (its past v) higher (both_of v w)
  both_has f g = record {
    seen = λ x lt m. by_creditor net v.shown w.shown x lt (λ a _ _. a ≡ lower.seen x) (λ out. f.seen x lt (own _ m out)) (g.seen x lt);
    pend = λ x lt m. by_creditor net v.shown w.shown x lt (λ _ _ a. a ≡ lower.pend x) (λ out. f.pend x lt (own _ m out)) (g.pend x lt);
    owed = λ x lt m. by_debtor net v.shown w.shown x lt (λ _ _ a _. a ≡ lower.owed x) (λ out. f.owed x lt (own _ m out)) (g.owed x lt);
    level = λ x lt. by_debtor net v.shown w.shown x lt (λ _ _ _ m. m ≤ higher.level x) (λ _. grind (arith, f.level x lt, h.levels x lt))
        (λ e. grind (arith, paid x lt e, e));
    fresh = chosen_each false (length net.banks) (holds w.shown) v.shown.fresh w.shown.fresh
        (λ b a. holds (both_of v w).shown b ≡ true → a ≡ lower.fresh b) (λ b l out m. f.fresh b l (own b m out)) (λ b l e _. g.fresh b l e);
  }
    where
      own : (b : ℕ) → holds (both_of v w).shown b ≡ true → holds w.shown b ≡ false → holds v.shown b ≡ true
      own = first_holds net v.shown w.shown

  -- the rule of the bells holds once a seat is taken back
  rung_join : get_elem? views id ≡ some v → v.live ≡ true → get_elem? views other ≡ some w → w.live ≡ true → other ≢ id
      → IsRung (its past v) t words (set (set views id (both_of v w)) other nobody)
  rung_join at on was also apart = record {
    ledger = higher;
    bells = h.bells;
    answered = h.answered;
    lifted = λ x lt. grind (arith, h.answered x lt, h.lifted x lt, (h.has other w was also).owed x lt, calm x lt);
    levels = λ x lt. grind (arith, h.levels x lt);
    fresh = h.fresh;
    few =
        let one : List View = set views id (both_of v w) in
        let there : get_elem? one other ≡ some w = set_else views id other (both_of v w) apart ∙ was in
        omega (
          arith,
          h.few,
          sum_views taken_of views id v (both_of v w) at,
          sum_views taken_of one other w nobody there,
          sum_views made_of views id v (both_of v w) at,
          sum_views made_of one other w nobody there,
          length-append v.shown.raises w.shown.raises,
          live_of v on,
          live_of w also,
          live_of (both_of v w) on,
        );
    has = each_set (λ _ u. HasBells (its past v) higher u) (set views id (both_of v w)) other nobody
        (λ j u far. each_set (λ _ u. HasBells (its past v) higher u) views id (both_of v w)
        (λ j u away e o. grind (arith, h.has j u e o, h.levels))
        (λ _. both_has (h.has id v at on) (h.has other w was also)) j u)
        (λ e. absurd (true≢false (sym e)));
  }

-- what the two seats must show
pub record MayTakeBack (v w : View) : Type 0 where
  pub live : v.live ≡ true
  pub chief : v.shown.master ≡ true
  pub also_live : w.live ≡ true
  pub plain : w.shown.master ≡ false
  pub calm : OwesNoRing w.shown

-- a seat may be taken back: the rule of the board holds after it
pub joins : (d : Origin) (id : ℕ) (v : View) (other : ℕ) (w : View) → MayTakeBack v w → Joins (rule d) id v other w (both_of v w) nobody
joins d id v other w may s h at apart there =
    let joined : View = both_of v w in
    let one : List View = set s.views id joined in
    let two : List View = set one other nobody in
    at_its (Keeps s.words s.words s.views two) d v (h.fits id v at may.live).net_is (λ h.
    let k = h.history in
    let f = h.fits id v at may.live in
    let was : get_elem? s.views other ≡ some w = sym (set_else s.views id other joined apart) ∙ there in
    let g = h.fits other w was may.also_live in
    let l : BoardHistory = record k { owner = λ b. if holds w.shown b then id else k.owner b; base = k.base ++ w.shown.raises } in
    let fits : ℕ → View → Type 0 = λ j u. Suits (its d.past v) l (slice_index s.words 0) (length s.views) j u in
    let seat : get_elem? two id ≡ some joined =
    set_else one other id nobody (λ e. apart (sym e)) ∙ set_here s.views id joined (got s.views id v v at).0 in
    record {
      history = l;
      network = h.network;
      size = h.size;
      stands = h.stands;
      lawful = h.lawful;
      known = All-append (λ r. r.debt.0 < length v.shown.net.debts) k.base w.shown.raises h.known
          (λ i e lt. (its_raises (its d.past v) k _ _ other w g may.plain i e lt).0);
      held = λ b lt. cond_both (holds w.shown b) id (k.owner b) (λ j. Sits two j (λ u. holds u.shown b ≡ true))
          (λ t. (joined, seat, may.live, held_second v.shown.net v.shown w.shown b lt t))
          (λ t.
          let e = h.held b lt in
          let m = sits_set s.views id v joined (k.owner b) (λ u. holds u.shown b ≡ true) at refl
          (held_first v.shown.net v.shown w.shown b lt) e in
          let off : k.owner b ≢ other = λ i. let same : e.0 ≡ w = some-injective e.0 w (sym e.1 ∙ ap (get_elem? s.views) i ∙ was) in
          absurd (true≢false (sym e.3 ∙ ap (λ (u : View). holds u.shown b) same ∙ t)) in
          (m.0, set_else one other (k.owner b) nobody off ∙ m.1, m.2, m.3));
      led = subst (λ (j : ℕ). Sits two j (λ u. u.shown.master ≡ true)) (f.leads may.chief).0 (joined, seat, may.live, may.chief);
      fits = rw (length-set one other nobody, length-set s.views id joined) (each_set fits one other nobody
          (λ j u far e o. each_set (λ j u. j ≢ other → fits j u) s.views id joined
          (λ j u away e o far. third_suits d.past k _ _ id other v w may.chief may.plain f g j u away far (h.fits j u e o))
          (λ _ _. both_suits d.past k _ _ id other v w may.chief may.plain f g
          (sound_both v.shown w.shown g.net_is f.sound g.sound)) j u e o far)
          (λ e. absurd (true≢false (sym e))));
      rung = rung_join d.past k.trace s.words s.views id other v w h.rung (λ x lt e. ap (λ (p : Payment). p.value) (g.pays x lt e))
          (rw g.net_is at may.calm) at may.live was may.also_live apart;
    }) h
