-- The rule of a board, which holds between any two atomic steps.
-- Word 0 is the roll word, the words of the debts follow, by positions, and then the bells of the banks.
use Rattle.std.specs.Prelude.{◌≡◌, ℕ, ◌+◌, ◌<◌, ◌≤◌, ◌++◌, Bool, true, [], false, All, List, length}
use Rattle.std.specs.Prelude.{slice_index}
use mathlib.Core.Option.{some}
use lib.ListN.{get_elem?}
use Rattle.clr_net.specs.Limits.{IsNetwork}
use Rattle.clr_net.specs.Net.{debtor_of}
use Rattle.clear_core.specs.declared.event.Raise.{Raise}
use Rattle.pay_words.specs.declared.origin.Origin.{Origin}
use Rattle.pay_words.specs.declared.view.View.{View}
use Rattle.pay_words.specs.Words.{word_of}
use Rattle.pay_words.specs.Traces.{Traces, AreLawfulTraces, Stood, raises_of, ending, start_of}
use Rattle.pay_words.specs.Traces.{total}
use Rattle.pay_words.specs.Ends.{AreAfter}
use Rattle.pay_words.specs.Holding.{holds}
use Rattle.pay_words.specs.Sound.{IsSound}
use Rattle.pay_words.specs.Seating.{opening}
use Rattle.pay_words.specs.Bells.{IsRung}
use Rattle.pay_words.specs.Positions.{position_of}

-- what no single seat knows: which seat holds each bank, which one is the master, the raises of the
-- past and of the master, and those of each debt
pub record BoardHistory : Type 0 where
  pub owner : ℕ → ℕ
  pub chief : ℕ
  pub base : List Raise
  pub trace : Traces

-- the raises that a seat made and has not given back
abbrev pub own_raises : Bool → List Raise → List Raise
own_raises true rs = []
own_raises false rs = rs

-- the master alone hands out seats, and the number of each is below the roll word
abbrev pub Leads : Origin → BoardHistory → ℕ → ℕ → ℕ → View → Type 0
Leads origin history roll count id v = v.shown.master ≡ true → (id ≡ history.chief)
    × (history.base ≡ origin.past ++ v.shown.raises) × (v.rolled ≡ roll)
    × (count ≤ v.shown.seats + 1) × (v.shown.seats + 1 ≤ v.rolled)

-- what the rule says of the view of the live seat `id`, one of `count`
pub record Suits (origin : Origin) (history : BoardHistory) (roll count id : ℕ) (v : View) : Type 0
  where
    pub net_is : v.shown.net ≡ origin.net
    pub sound : IsSound v.shown
    -- each bank that it holds is its own
    pub mine : (b : ℕ) → holds v.shown b ≡ true → history.owner b ≡ id
    -- the payments that it shows are those of the words
    pub pays : (x : ℕ) → x < length origin.net.debts → holds v.shown (debtor_of origin.net x) ≡ true
        → record { value = slice_index v.shown.paid x; stamp = slice_index v.shown.paid_stamps x }
        ≡ ending (history.trace x)
    -- of a debt that its banks owe, the raises are those of the past, of the master and its own; it
    -- made no other raise
    pub told : (x : ℕ) → x < length origin.net.debts → holds v.shown (debtor_of origin.net x) ≡ true
        → history.trace x
        ≡ raises_of x history.base ++ raises_of x (own_raises v.shown.master v.shown.raises)
    pub only : All
        (λ r. (r.debt.0 < length origin.net.debts)
        × (holds v.shown (debtor_of origin.net r.debt.0) ≡ true))
        (own_raises v.shown.master v.shown.raises)
    -- each sight stood once, and no floor is above what is paid
    pub stood : (x : ℕ) → x < length origin.net.debts
        → Stood (history.trace x) (slice_index v.shown.sights x)
        (slice_index v.shown.sight_stamps x)
    pub floor : (x : ℕ) → x < length origin.net.debts
        → slice_index v.shown.floor x ≤ (ending (history.trace x)).value
    -- its clock is at least each stamp that it knows, and at most all that is paid
    pub seen_by_clock : (x : ℕ) → slice_index v.shown.sight_stamps x ≤ v.shown.clock
    pub paid_by_clock : (x : ℕ) → x < length origin.net.debts
        → holds v.shown (debtor_of origin.net x) ≡ true
        → (ending (history.trace x)).stamp ≤ v.shown.clock
    pub past_by_clock : All (λ r. r.stamp ≤ v.shown.clock) origin.past
    pub late : AreAfter origin.past v.shown.raises
    pub clock_low : v.shown.clock ≤ total origin.net history.trace
    pub leads : Leads origin history roll count id v

-- a live seat with this view has the place `id`
abbrev pub Sits : List View → ℕ → (View → Type 0) → Type 0
Sits views id what = (v : View) × (get_elem? views id ≡ some v) × (v.live ≡ true) × what v

-- The rule of a board: what holds of its words and of all its seats between any two steps. Each
-- payment word is the end of lawful raises. Each bank is held by one live seat, whose view shows of
-- its debts what the words say. And no creditor misses a raise, since its bell tells it.
pub record MeetsRule (origin : Origin) (words : List ℕ) (views : List View) : Type 0 where
  pub history : BoardHistory
  pub network : IsNetwork origin.net
  -- a word for the roll, one for each debt and one for each bank
  pub size : length words ≡ 1 + length origin.net.debts + length origin.net.banks
  -- each payment word is that of the debt's last raise, and all raises are lawful
  pub stands : (x : ℕ) → x < length origin.net.debts
      → slice_index words (position_of origin.net x + 1) ≡ word_of (ending (history.trace x))
  pub lawful : AreLawfulTraces origin.net history.trace
  pub known : All (λ r. r.debt.0 < length origin.net.debts) history.base
  -- each bank is held by the one seat that owns it, and there is a master
  pub held : (b : ℕ) → b < length origin.net.banks
      → Sits views (history.owner b) (λ v. holds v.shown b ≡ true)
  pub led : Sits views history.chief (λ v. v.shown.master ≡ true)
  pub fits : (id : ℕ) (v : View) → get_elem? views id ≡ some v → v.live ≡ true
      → Suits origin history (slice_index words 0) (length views) id v
  -- and the bells are kept
  pub rung : IsRung origin history.trace words views

-- the first seat is the master. What it shows of each debt is the payment of the debt's last raise
-- in the past
abbrev pub opening_view : Origin → View
opening_view origin = record {
  live = true;
  rolled = 1;
  shown = opening origin.net (start_of origin.net origin.past);
}
