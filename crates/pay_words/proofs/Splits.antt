-- The master hands the banks of a worker to a new seat.
use Rattle.pay_words.proofs.Tables.{tabled_at}
use Rattle.pay_words.specs.declared.view.Act.{Act}
use Rattle.pay_words.specs.Steps.{showing}
use Rattle.clear_core.specs.Raised.{is_marked}
use Rattle.std.proofs.lemmas.Bool.{cond_both}
use Rattle.pay_words.proofs.Tables.{length-tabled}
use Rattle.pay_words.proofs.Views.{each_set, each_longer, not_both}
use Rattle.pay_words.proofs.Bells.{live_of}
use Rattle.std.proofs.Common.{◌≡◌, ◌≢◌, ℕ, ◌+◌, ◌<◌, ◌≤◌, List, [], ◌∷◌, ◌++◌, length, set, Bool, true, false, true≢false, refl, sym, ap, ◌∙◌, arith, length-set, length-append, All}
use Rattle.std.specs.Prelude.{slice_index, if◌then◌else◌, ◌&&◌, not}
use Rattle.std.proofs.lemmas.Bool.{cond-true, cond-false}
use Rattle.atomic_table.specs.Table.{Splits}
use Rattle.atomic_table.proofs.Lists.{at_longer, at_last}
use Rattle.clr_net.specs.Net.{Net, debtor_of}
use Rattle.clear_core.specs.declared.event.Raise.{Raise}
use Rattle.pay_words.specs.declared.origin.Origin.{Origin}
use Rattle.pay_words.specs.declared.view.Shown.{Shown}
use Rattle.pay_words.specs.declared.view.View.{View}
use Rattle.pay_words.specs.Holding.{HoldsAllOf, holds, is_of_worker}
use Rattle.pay_words.specs.Sound.{IsSound}
use Rattle.pay_words.specs.Seating.{handed, without}
use Rattle.pay_words.specs.Traces.{raises_of}
use Rattle.pay_words.specs.BoardRule.{BoardHistory, Leads, Suits, Sits, own_raises}
use Rattle.pay_words.specs.Bells.{BellLedger, HasBells, taken_of, made_of}
use Rattle.pay_words.specs.Steps.{rest_of, part_of}
use Rattle.pay_words.proofs.Marks.{marked_if, marked}
use Rattle.pay_words.proofs.Views.{rule, sits_set}
use Rattle.pay_words.proofs.Bells.{sum_views}
use Rattle.std.proofs.lemmas.List.Sums.{sum_by-append, sum_by-cons}
use Rattle.std.proofs.lemmas.List.Elements.{All-nil}
use Rattle.pay_words.specs.Ends.{AreAfter}

module _ (workers i : ℕ) (s : Shown) where
  -- whether a bank is handed out
  abbrev pub goes : ℕ → Bool
  goes b = holds (handed workers i s) b

  -- a bank that goes is one of the worker
  pub goes_if : (b : ℕ) → goes b ≡ true → (b < length s.net.banks) × (is_of_worker workers i b ≡ true)
  goes_if b e = marked_if (length s.net.banks) (is_of_worker workers i) b e

  -- it was held by the master
  pub goes_from : HoldsAllOf workers i s → (b : ℕ) → goes b ≡ true → holds s b ≡ true
  goes_from all b e = let g = goes_if b e in all b g.0 g.1

  -- a bank that stays was held, and does not go
  pub stays_if : (b : ℕ) → holds (without workers i s) b ≡ true → (holds s b ≡ true) × (goes b ≡ false)
  stays_if b e = grind (
    arith,
    marked_if (length s.net.banks)
        (λ c. holds s c && not (is_of_worker workers i c)) b e,
    tabled_at (length s.net.banks) (is_of_worker workers i) b false,
  )

  -- and the other way round
  pub stays : (b : ℕ) → b < length s.net.banks → holds s b ≡ true → goes b ≡ false → holds (without workers i s) b ≡ true
  stays b lt h e = marked (length s.net.banks) (λ c. holds s c && not (is_of_worker workers i c)) b lt
      (grind (arith, h, e, tabled_at (length s.net.banks) (is_of_worker workers i) b false lt))

-- a seat that shows what v shows, of some of its banks
module _ (v : View) (m : Bool) (banks : List Bool) (raises : List Raise) (seats taken : ℕ) (acts : List Act)
    (its_own : (b : ℕ) → is_marked banks b ≡ true → holds v.shown b ≡ true) where
  -- what such a seat shows
  abbrev fewer : View
  fewer = showing v (record v.shown { master = m; banks = banks; raises = raises; seats = seats; taken = taken; acts = acts })

  -- what a seat shows is sound with fewer banks
  pub sound_fewer : length banks ≡ length v.shown.net.banks → IsSound v.shown → IsSound fewer.shown
  sound_fewer size h =
      let within = λ (x : ℕ) (lt : x < length v.shown.net.debts)
      (e : is_marked banks (debtor_of v.shown.net x) ≡ true). h.pays_within x lt (its_own _ e) in
      assumption (size, within, h)

  -- and its view suits the rule, where each bank that it keeps is its own
  fewer_suits : (d : Origin) (k : BoardHistory) (owner : ℕ → ℕ) (roll count now id j : ℕ) → v.shown.master ≡ true
      → length banks ≡ length v.shown.net.banks → Suits d k roll count id v
      → ((b : ℕ) → is_marked banks b ≡ true → owner b ≡ j) → own_raises m raises ≡ [] → AreAfter d.past raises
      → Leads d (record k { owner = owner }) roll now j fewer → Suits d (record k { owner = owner }) roll now j fewer
  fewer_suits d k owner roll count now id j chief size f mine none late leads =
      let pays = λ (x : ℕ) (lt : x < length d.net.debts) (e : is_marked banks (debtor_of d.net x) ≡ true). f.pays x lt (its_own _ e) in
      let told : (x : ℕ) → x < length d.net.debts → is_marked banks (debtor_of d.net x) ≡ true
      → k.trace x ≡ raises_of x k.base ++ raises_of x (own_raises m raises) =
      λ x lt e. rw none (simp chief at (f.told x lt (its_own _ e))) in
      let stamps = λ (x : ℕ) (lt : x < length d.net.debts)
      (e : is_marked banks (debtor_of d.net x) ≡ true). f.paid_by_clock x lt (its_own _ e) in
      let only : All (λ r. (r.debt.0 < length d.net.debts) × (is_marked banks (debtor_of d.net r.debt.0) ≡ true))
      (own_raises m raises) = rw none (All-nil _) in
      assumption (mine, pays, told, stamps, only, late, leads, sound_fewer size f.sound, f)

  -- it has what the ledger knows of the bells of these banks
  fewer_has : (d : Origin) (w : BellLedger) → HasBells d w v → HasBells d w fewer
  fewer_has d w g = record {
    seen = λ x lt e. g.seen x lt (its_own _ e);
    pend = λ x lt e. g.pend x lt (its_own _ e);
    owed = λ x lt e. g.owed x lt (its_own _ e);
    level = g.level;
    fresh = λ b lt e. g.fresh b lt (its_own b e);
  }

-- another seat suits a history in which its banks have the owners that they had, however many seats there are
other_owner : (d : Origin) (k : BoardHistory) (roll count : ℕ) (owner : ℕ → ℕ) (id j : ℕ) (v u : View)
    → Suits d k roll count id v → v.shown.master ≡ true → j ≢ id → Suits d k roll count j u
    → ((b : ℕ) → holds u.shown b ≡ true → owner b ≡ k.owner b) → Suits d (record k { owner = owner }) roll (count + 1) j u
other_owner d k roll count owner id j v u f chief apart g same =
    let mine = λ (b : ℕ) (e : holds u.shown b ≡ true). same b e ∙ g.mine b e in
    let leads : Leads d (record k { owner = owner }) roll (count + 1) j u = λ e. absurd (apart ((g.leads e).0 ∙ sym (f.leads chief).0)) in
    assumption (mine, leads, g)

-- a view that sits in a list of views sits in a longer one
sits_longer : (l m : List View) (j : ℕ) (P : View → Type 0) → Sits l j P → Sits (l ++ m) j P
sits_longer l m j P t = (t.0, at_longer l m j t.0 t.1, t.2, t.3)

-- what the master must show
pub record MayHand (workers i : ℕ) (v : View) : Type 0 where
  pub live : v.live ≡ true
  pub chief : v.shown.master ≡ true
  pub all : HoldsAllOf workers i v.shown
  pub room : v.shown.seats + 2 ≤ v.rolled

-- a master may hand out the banks of a worker: the rule of the board holds after it
pub splits : (d : Origin) (id : ℕ) (v : View) (workers i : ℕ) → MayHand workers i v → Splits (rule d) id v (rest_of workers i v) (part_of workers i v)
splits d id v workers i may s h at =
    let k = h.history in
    let f = h.fits id v at may.live in
    let l = f.leads may.chief in
    let count : ℕ = length s.views in
    let left : View = rest_of workers i v in
    let part : View = part_of workers i v in
    let rest : List View = set s.views id left in
    let goes : ℕ → Bool = holds part.shown in
    let its : (b : ℕ) → goes b ≡ true → holds v.shown b ≡ true = goes_from workers i v.shown may.all in
    let stay : (b : ℕ) → holds left.shown b ≡ true → (holds v.shown b ≡ true) × (goes b ≡ false) = stays_if workers i v.shown in
    let owner : ℕ → ℕ = λ b. if goes b then count else k.owner b in
    let fits : ℕ → View → Type 0 = λ j u. Suits d (record k { owner = owner }) (slice_index s.words 0) (count + 1) j u in
    let bells : ℕ → View → Type 0 = λ _. HasBells d h.rung.ledger in
    record {
      history = record k { owner = owner };
      network = h.network;
      size = h.size;
      stands = h.stands;
      lawful = h.lawful;
      known = h.known;
      held = λ b lt. cond_both (goes b) count (k.owner b) (λ j. Sits (rest ++ part ∷ []) j (λ u. holds u.shown b ≡ true))
          (λ t. (part, at_last rest part count (length-set s.views id left), may.live, t))
          (λ t. sits_longer rest (part ∷ []) (k.owner b) _ (sits_set s.views id v left (k.owner b) (λ u. holds u.shown b ≡ true) at refl
          (λ e. stays workers i v.shown b (omega (arith, lt, ap (λ (n : Net). length n.banks) f.net_is)) e t) (h.held b lt)));
      led = sits_longer rest (part ∷ []) k.chief _ (sits_set s.views id v left k.chief (λ u. u.shown.master ≡ true) at refl (λ e. e) h.led);
      fits = rw (length-append rest (part ∷ []), length-set s.views id left) (each_longer fits rest part
          (each_set fits s.views id left (λ j u ne e o. other_owner d k _ count owner id j v u f may.chief ne (h.fits j u e o)
          (λ b e'. cond_both (goes b) count (k.owner b) (λ x. x ≡ k.owner b)
          (λ t. absurd (not_both d k _ _ id j u v b ne f (its b t) (h.fits j u e o) e')) (λ _. refl)))
          (λ _. fewer_suits v _ _ _ _ _ _ (λ b e. (stay b e).0) d k owner _ _ _ id id may.chief (length-tabled _ _) f
          (λ b e. cond-false (goes b) count (k.owner b) (stay b e).1 ∙ f.mine b (stay b e).0)
          (ap (λ (m : Bool). own_raises m v.shown.raises) may.chief) f.late
          (λ _. (l.0, l.1, l.2, omega (arith, l.3), omega (arith, may.room)))))
          (rw (length-set s.views id left) (fewer_suits v _ _ _ _ _ _ its d k owner _ _ _ id count may.chief (length-tabled _ _) f
          (λ b e. cond-true (goes b) count (k.owner b) e) refl (All-nil _) (λ e. absurd (true≢false (sym e))))));
      rung = record {
        ledger = h.rung.ledger;
        bells = h.rung.bells;
        answered = h.rung.answered;
        lifted = h.rung.lifted;
        levels = h.rung.levels;
        fresh = h.rung.fresh;
        few =
            omega (
              arith,
              h.rung.few,
              sum_views taken_of s.views id v left at,
              sum_views made_of s.views id v left at,
              sum_by-append taken_of rest (part ∷ []),
              sum_by-append made_of rest (part ∷ []),
              sum_by-cons taken_of part [],
              sum_by-cons made_of part [],
              live_of part may.live,
            );
        has = each_longer bells rest part
            (each_set bells s.views id left (λ j u _. h.rung.has j u)
            (λ _. fewer_has v _ _ _ _ _ _ (λ b e. (stay b e).0) d _ (h.rung.has id v at may.live)))
            (fewer_has v _ _ _ _ _ _ its d _ (h.rung.has id v at may.live));
      };
    }
