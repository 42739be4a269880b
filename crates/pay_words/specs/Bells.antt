-- The bells of a board: whom they call, and why no creditor misses a raise.
use Rattle.std.specs.Prelude.{◌≡◌, ◌⊎◌, ℕ, ◌+◌, ◌<◌, ◌≤◌, if◌then◌else◌, Bool, true, false, List}
use Rattle.std.specs.Prelude.{length, slice_index, sum, sum_by}
use mathlib.Core.Option.{some}
use lib.ListN.{get_elem?}
use Rattle.clr_net.specs.Net.{Net, debtor_of, creditor_of}
use Rattle.pay_words.specs.declared.origin.Origin.{Origin}
use Rattle.pay_words.specs.declared.view.View.{View}
use Rattle.pay_words.specs.Traces.{Traces, ending}
use Rattle.clear_core.specs.Raised.{is_marked}
use Rattle.pay_words.specs.Tables.{tabled}
use Rattle.pay_words.specs.Holding.{holds}

-- what no single seat knows of the bells: of each debt what its creditor last saw, whether it is
-- pending there, whether it owes a ring and the greatest floor of any seat, and of each bank
-- whether its bell was never taken
pub record BellLedger : Type 0 where
  pub seen : ℕ → ℕ
  pub pend : ℕ → Bool
  pub owed : ℕ → Bool
  pub level : ℕ → ℕ
  pub fresh : ℕ → Bool

-- what the view of a live seat has of that
pub record HasBells (origin : Origin) (ledger : BellLedger) (v : View) : Type 0 where
  pub seen : (x : ℕ) → x < length origin.net.debts → holds v.shown (creditor_of origin.net x) ≡ true
      → slice_index v.shown.sights x ≡ ledger.seen x
  pub pend : (x : ℕ) → x < length origin.net.debts → holds v.shown (creditor_of origin.net x) ≡ true
      → is_marked v.shown.pending x ≡ ledger.pend x
  pub owed : (x : ℕ) → x < length origin.net.debts → holds v.shown (debtor_of origin.net x) ≡ true
      → is_marked v.shown.owes_ring x ≡ ledger.owed x
  pub level : (x : ℕ) → x < length origin.net.debts → slice_index v.shown.floor x ≤ ledger.level x
  pub fresh : (b : ℕ) → b < length origin.net.banks → holds v.shown b ≡ true
      → is_marked v.shown.fresh b ≡ ledger.fresh b

-- the bell of the bank b: 1 where it is up, and otherwise 0
abbrev pub bell : Net → List ℕ → ℕ → ℕ
bell net words b = slice_index words (length net.debts + 1 + b)

-- the creditor of the debt x is called to look at it: its bell is up, or it took the bell and has
-- not looked since
abbrev pub IsCalled : Net → List ℕ → BellLedger → ℕ → Type 0
IsCalled net words ledger x = (bell net words (creditor_of net x) ≡ 1) ⊎ (ledger.pend x ≡ true)

-- how many of n numbers are marked
abbrev pub how_many : ℕ → (ℕ → Bool) → ℕ
how_many n marks = sum (tabled n (λ x. if marks x then 1 else 0))

-- how many bells are up
abbrev pub bells_up : Net → List ℕ → ℕ
bells_up net words = sum (tabled (length net.banks) (bell net words))

-- how many bells a live seat took: none count of a seat that was taken back
abbrev pub taken_of : View → ℕ
taken_of v = if v.live then v.shown.taken else 0

-- how many raises a live seat made
abbrev pub made_of : View → ℕ
made_of v = if v.live then length v.shown.raises else 0

-- the rule of the bells
pub record IsRung (origin : Origin) (traces : Traces) (words : List ℕ) (views : List View) : Type 0
  where
    pub ledger : BellLedger
    pub bells : (b : ℕ) → b < length origin.net.banks → bell origin.net words b ≤ 1
    -- what is paid on a debt is what its creditor last saw, or the creditor is called, or the debt
    -- owes it a ring
    pub answered : (x : ℕ) → x < length origin.net.debts
        → (ledger.seen x ≡ (ending (traces x)).value)
        ⊎ (IsCalled origin.net words ledger x ⊎ (ledger.owed x ≡ true))
    -- the creditor has seen at least every floor, or it is called; no floor is above what is paid
    pub lifted : (x : ℕ) → x < length origin.net.debts
        → (ledger.level x ≤ ledger.seen x) ⊎ IsCalled origin.net words ledger x
    pub levels : (x : ℕ) → x < length origin.net.debts → ledger.level x ≤ (ending (traces x)).value
    -- a bell that was never taken is up, and no debt to its bank is pending
    pub fresh : (b : ℕ) → b < length origin.net.banks → ledger.fresh b ≡ true
        → (bell origin.net words b ≡ 1)
        × ((x : ℕ) → x < length origin.net.debts → creditor_of origin.net x ≡ b
        → ledger.pend x ≡ false)
    -- bells that were taken, are up or are owed are no more than banks and raises
    pub few : sum_by taken_of views + bells_up origin.net words
        + how_many (length origin.net.debts) ledger.owed
        ≤ length origin.net.banks + sum_by made_of views
    pub has : (id : ℕ) (v : View) → get_elem? views id ≡ some v → v.live ≡ true
        → HasBells origin ledger v
