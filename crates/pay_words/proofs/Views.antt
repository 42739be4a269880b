-- The list of all views when one of them changes.
use Rattle.atomic_table.specs.Table.{Me, Allows, keeps}
use Rattle.clear_core.specs.declared.event.Raise.{Raise}
use Rattle.clr_net.specs.Net.{Net}
use Rattle.std.proofs.Common.{get_or, ◌++◌}
use Rattle.std.proofs.Common.{◌≡◌, ◌≢◌, ℕ, zero, suc, ◌+◌, ◌<◌, Bool, List, [], ◌∷◌, length, set, true, sym, ap, ◌∙◌, subst, ⊎_elim, arith, length-set, All, false}
use Rattle.std.specs.Prelude.{slice_index}
use mathlib.Core.Option.{some, some-ne-none, some-injective}
use mathlib.Core.Logic.{dite}
use native.Mathlib.Decide.{ℕ_discrete}
use lib.ListN.{get_elem?}
use Rattle.atomic_table.specs.Table.{State}
use Rattle.atomic_table.proofs.Lists.{at_set, set_here, set_else}
use Rattle.pay_words.specs.declared.origin.Origin.{Origin}
use Rattle.pay_words.specs.declared.view.View.{View}
use Rattle.pay_words.specs.Positions.{position_of}
use Rattle.pay_words.specs.Words.{word_of}
use Rattle.pay_words.specs.Traces.{Traces, AreLawfulTraces, ending}
use Rattle.clear_core.specs.Raised.{is_marked}
use Rattle.pay_words.specs.Holding.{holds}
use Rattle.pay_words.specs.BoardRule.{BoardHistory, Suits, Sits, MeetsRule, own_raises}
use Rattle.pay_words.specs.Bells.{IsRung}
use Rattle.clr_net.specs.Net.{debtor_of}

-- the rule of a board, of a state of words and views
abbrev pub rule : Origin → State (Unit {0}) View → Type 0
rule d s = MeetsRule d s.words s.views

-- what stands in a place of a list
pub got : {A : Type 0} (l : List A) (i : ℕ) (a d : A) → get_elem? l i ≡ some a → (i < length l) × (get_or l i d ≡ a)
got [] i a d e = absurd (some-ne-none a (sym e))
got (x ∷ xs) zero a d e = (omega arith, some-injective x a e)
got (x ∷ xs) (suc i) a d e = let h = got xs i a d e in (omega (arith, h.0), h.1)

-- a seat that sits somewhere sits there still, if the view that changes keeps what is asked
pub sits_set : (views : List View) (id : ℕ) (v w : View) (j : ℕ) (P : View → Type 0) → get_elem? views id ≡ some v → w.live ≡ v.live → (P v → P w)
    → Sits views j P → Sits (set views id w) j P
sits_set views id v w j P at on keep t = dite (ℕ_discrete j id)
    (λ e.
    let same : t.0 ≡ v = some-injective t.0 v (sym t.1 ∙ ap (get_elem? views) e ∙ at) in
    (w, rw e (set_here views id w (got views id v v at).0), on ∙ ap (λ (u : View). u.live) (sym same) ∙ t.2, keep (rw same at t.3)))
    (λ ne. (t.0, set_else views id j w ne ∙ t.1, t.2, t.3))

-- what holds of each other live seat, and of the new view, holds of all
pub each_set : (P : ℕ → View → Type 0) (views : List View) (id : ℕ) (w : View)
    → ((j : ℕ) (u : View) → j ≢ id → get_elem? views j ≡ some u → u.live ≡ true → P j u)
    → (w.live ≡ true → P id w) → (j : ℕ) (u : View) → get_elem? (set views id w) j ≡ some u → u.live ≡ true → P j u
each_set P views id w others mine j u e on = ⊎_elim
    (λ (t : (j ≡ id) × (w ≡ u)). subst (λ (y : ℕ × View). P y.0 y.1) (λ i. (sym t.0 i, t.1 i)) (mine (ap (λ (y : View). y.live) t.1 ∙ on)))
    (λ (t : (j ≢ id) × (get_elem? views j ≡ some u)). others j u t.0 t.1 on)
    (at_set views id j w u e)

-- what holds of each live seat, and of one more, holds of all
pub each_longer : (P : ℕ → View → Type 0) (l : List View) (w : View)
    → ((j : ℕ) (u : View) → get_elem? l j ≡ some u → u.live ≡ true → P j u) → P (length l) w
    → (j : ℕ) (u : View) → get_elem? (l ++ w ∷ []) j ≡ some u → u.live ≡ true → P j u
each_longer P [] w h here zero u e on = subst (P 0) (some-injective w u e) here
each_longer P [] w h here (suc j) u e on = absurd (some-ne-none u (sym e))
each_longer P (x ∷ xs) w h here zero u e on = h 0 u e on
each_longer P (x ∷ xs) w h here (suc j) u e on = each_longer (λ i. P (suc i)) xs w (λ i. h (suc i)) here j u e on

-- an origin for the network that a seat shows
abbrev pub its : List Raise → View → Origin
its past v = record { net = v.shown.net; past = past }

-- what holds over that network holds over that of its board
pub at_its : (P : Origin → Type 0) (d : Origin) (v : View) → v.shown.net ≡ d.net → P (its d.past v) → P d
at_its P d v e = subst (λ (n : Net). P (record { net = n; past = d.past })) e

-- the rule is kept from some words and views to others
abbrev pub Keeps : List ℕ → List ℕ → List View → List View → Origin → Type 0
Keeps words now views after d = MeetsRule d words views → MeetsRule d now after

-- a step that takes no slot is allowed where it keeps the rule
pub allowed : (d : Origin) (slots id : ℕ) (me : Me (Unit {0}) View) (i : ℕ) (f : ℕ → ℕ) (then : ℕ → Me (Unit {0}) View
    → Type 0) (w : ℕ → View) → me.0.shown.net ≡ d.net
    → ((s : State (Unit {0}) View) (h : MeetsRule (its d.past me.0) s.words s.views) → get_elem? s.views id ≡ some me.0
    → MeetsRule (its d.past me.0) (set s.words i (f (slice_index s.words i)))
    (set s.views id (w (slice_index s.words i))) × then (slice_index s.words i) (w (slice_index s.words i), me.1))
    → Allows (rule d) slots id me i f then
allowed d slots id me i f then w e step s h sized at small =
    let n = slice_index s.words i in
    let within : MeetsRule (its d.past me.0) s.words s.views =
    subst (λ (n : Net). MeetsRule (record { net = n; past = d.past }) s.words s.views) (sym e) h in
    let after = step s within at in
    (w n, keeps, tt, at_its (λ d. MeetsRule d (set s.words i (f n)) (set s.views id (w n))) d me.0 e after.0, after.1)

-- a step of the seat `id`, which holds the banks that it held, keeps the rule where words, raises,
-- seats and bells go together again
pub kept_again : (d : Origin) (words now : List ℕ) (views : List View) (id roll : ℕ) (v w : View) (t : Traces) (h : MeetsRule d words views)
    → get_elem? views id ≡ some v → v.live ≡ true → w.live ≡ v.live → w.shown.banks ≡ v.shown.banks
    → w.shown.master ≡ v.shown.master → length now ≡ length words → slice_index now 0 ≡ roll
    → ((x : ℕ) → x < length d.net.debts → slice_index now (position_of d.net x + 1) ≡ word_of (ending (t x))) → AreLawfulTraces d.net t
    → ((j : ℕ) (u : View) → j ≢ id → get_elem? views j ≡ some u → u.live ≡ true → Suits d h.history (slice_index words 0) (length views) j u
    → Suits d (record h.history { trace = t }) roll (length views) j u)
    → (Suits d h.history (slice_index words 0) (length views) id v → Suits d (record h.history { trace = t }) roll (length views) id w)
    → IsRung d t now (set views id w) → MeetsRule d now (set views id w)
kept_again d words now views id roll v w t h at on live banks chief long first stands lawful others mine rung = record {
  history = record h.history { trace = t };
  network = h.network;
  size = long ∙ h.size;
  stands = stands;
  lawful = lawful;
  known = h.known;
  held = λ b l. sits_set views id v w (h.history.owner b) (λ u. holds u.shown b ≡ true) at live
      (λ e. ap (λ (bs : List Bool). is_marked bs b) banks ∙ e) (h.held b l);
  led = sits_set views id v w h.history.chief (λ u. u.shown.master ≡ true) at live (λ e. chief ∙ e) h.led;
  fits = rw (first, length-set views id w) (each_set (Suits d (record h.history { trace = t }) roll (length views)) views id w
      (λ j u ne e o. others j u ne e o (h.fits j u e o)) (λ _. mine (h.fits id v at on)));
  rung = rung;
}

-- the raises of a seat that is not the master's are of its own debts
pub its_raises : (d : Origin) (k : BoardHistory) (roll count id : ℕ) (v : View) → Suits d k roll count id v → v.shown.master ≡ false
    → All (λ r. (r.debt.0 < length d.net.debts) × (holds v.shown (debtor_of d.net r.debt.0) ≡ true)) v.shown.raises
its_raises d k roll count id v f plain =
    subst (λ (b : Bool). All (λ r. (r.debt.0 < length d.net.debts) × (holds v.shown (debtor_of d.net r.debt.0) ≡ true))
    (own_raises b v.shown.raises)) plain f.only

-- two seats do not hold the same bank
pub not_both : (d : Origin) (k : BoardHistory) (roll count i j : ℕ) (u v : View) (b : ℕ) → j ≢ i → Suits d k roll count i v → holds v.shown b ≡ true → Suits d k roll count j u → holds u.shown b ≡ true → ⊥
not_both d k roll count i j u v b apart f hv g hu = apart (sym (g.mine b hu) ∙ f.mine b hv)
