-- A walk from a bank back along debts above 0 of one class, and what is known of each bank.
use Rattle.std.specs.Prelude.{◌≡◌, ◌≢◌, ℕ, ◌+◌, ◌<◌, ◌≤◌, List, [], ◌∷◌, All, length, map, sum_by}
use Rattle.std.specs.Prelude.{Option, Some, None}
use Rattle.std.specs.Prelude.{slice_index, slice_index_or}
use Rattle.clr_net.specs.Amounts.{IsAtMost}
use Rattle.clr_net.specs.Net.{Net, debtor_of, creditor_of, class_of, column}
use Rattle.compress.specs.declared.mark.Mark.{Mark}
use Rattle.compress.specs.declared.step.Step.{Step}
use Rattle.compress.specs.declared.walk.Walk.{Walk}
use Rattle.compress.specs.declared.mark.Mark.TheVariants.{New, Walked, Done}
use Rattle.compress.specs.Compression.{IsBalanceKept, IsLive, rank_above}

-- what is known of the bank b: all, past the end
abbrev pub mark_of : List Mark → ℕ → Mark
mark_of marks b = slice_index_or marks b Done

-- the numbers of the debts of some steps
abbrev pub numbers : List Step → List ℕ
numbers steps = map (λ s. s.debt.0) steps

-- the step tells the debtor of its debt
abbrev pub IsStep : Net → Step → Type 0
IsStep net s = s.debtor.0 ≡ debtor_of net s.debt.0

-- a step back from the bank b along a debt of the class c, whatever is left of its claim
pub record IsStepFrom (net : Net) (c b : ℕ) (s : Step) : Type 0 where
  pub debt : s.debt.0 < length net.debts
  pub class : class_of net s.debt.0 ≡ c
  pub owed : creditor_of net s.debt.0 ≡ b
  pub debtor : IsStep net s

-- each of the heads is a step back from its bank
abbrev pub AreHeads : Net → ℕ → List (Option Step) → Type 0
AreHeads net c heads = (b : ℕ) (s : Step) → slice_index_or heads b None ≡ Some s
    → IsStepFrom net c b s

-- the banks of the walk back from the bank s along the debts W: s, and the debtor of each debt
abbrev pub stops : Net → ℕ → List ℕ → List ℕ
stops net s W = s ∷ map (debtor_of net) W

-- the bank that the walk has come to
abbrev pub end_of : Net → ℕ → List ℕ → ℕ
end_of net s W = slice_index (stops net s W) (length W)

-- a walk back from the bank s along debts of the class c above 0, in which no bank comes twice:
-- the marks tell the place of each
pub record IsWalk (net : Net) (c s : ℕ) (C W : List ℕ) (marks : List Mark) : Type 0 where
  pub live : (k : ℕ) → k < length W → IsLive net C c (slice_index W k)
  pub links : (k : ℕ) → k < length W
      → creditor_of net (slice_index W k) ≡ slice_index (stops net s W) k
  pub marked : (k : ℕ) → k < length W + 1 → mark_of marks (slice_index (stops net s W) k) ≡ Walked k
  pub placed : (b p : ℕ) → mark_of marks b ≡ Walked p
      → (p < length W + 1) × (slice_index (stops net s W) p ≡ b)

-- no walk is under way
abbrev pub HasNoWalk : List Mark → Type 0
HasNoWalk marks = (b p : ℕ) → mark_of marks b ≢ Walked p

-- 1 for a bank that is not done
abbrev pub undone : Mark → ℕ
undone New = 1
undone (Walked p) = 1
undone Done = 0

-- how many steps are left at a bank: it is walked to, and then it is done
abbrev pub steps_left : Mark → ℕ
steps_left New = 2
steps_left (Walked p) = 1
steps_left Done = 0

-- each debt above 0 to a bank that is done is owed by one that is done, and the banks that are
-- done have their numbers. No number is above the number of banks that are done
pub record AreDone (net : Net) (c : ℕ) (C R : List ℕ) (marks : List Mark) : Type 0 where
  pub debtors : (x : ℕ) → IsLive net C c x → mark_of marks (creditor_of net x) ≡ Done
      → mark_of marks (debtor_of net x) ≡ Done
  pub ranks : (b : ℕ) → b < length net.banks → mark_of marks b ≡ Done
      → slice_index R b ≡ rank_above net C (slice_index R) c b
  pub low : (b : ℕ) → slice_index R b + sum_by undone marks ≤ length net.banks

-- a debt above 0 to the bank b, of a bank that is not done
pub record LeadsOn (net : Net) (c b : ℕ) (C : List ℕ) (marks : List Mark) (x : ℕ) : Type 0 where
  pub live : IsLive net C c x
  pub owed : creditor_of net x ≡ b
  pub unfinished : mark_of marks (debtor_of net x) ≢ Done

-- each debt above 0 to the bank b is owed by one that is done
abbrev pub IsReady : Net → ℕ → ℕ → List ℕ → List Mark → Type 0
IsReady net c b C marks =
    (x : ℕ) → IsLive net C c x → creditor_of net x ≡ b → mark_of marks (debtor_of net x) ≡ Done

-- a place of the column of the bank b need not be looked at any more: its debt is 0 or not of the
-- class c, or is owed by a bank that is done
abbrev pub IsPassed : Net → ℕ → List ℕ → List Mark → ℕ → ℕ → Type 0
IsPassed net c C marks b k = IsLive net C c (slice_index (column net b) k)
    → mark_of marks (debtor_of net (slice_index (column net b) k)) ≡ Done

-- each bank has a cursor into its column, and the places before it are passed
abbrev pub ArePassed : Net → ℕ → List ℕ → List Mark → List ℕ → Type 0
ArePassed net c C marks cursors =
    (b k : ℕ) → k < slice_index cursors b → IsPassed net c C marks b k

-- each list over banks has a place for each bank
pub record IsSizedFor (net : Net) (w : Walk) : Type 0 where
  pub marks : length w.marks.items ≡ length net.banks
  pub cursors : length w.cursors.items ≡ length net.banks
  pub heads : length w.heads.items ≡ length net.banks
  pub ranks : length w.ranks.items ≡ length net.banks

-- what is told of the banks holds: which are done, with which numbers, which places of their
-- columns are passed, and where the last step back from each of them led
pub record IsTold (net : Net) (c : ℕ) (C : List ℕ) (w : Walk) : Type 0 where
  pub done : AreDone net c C w.ranks.items w.marks.items
  pub passed : ArePassed net c C w.marks.items w.cursors.items
  pub heads : AreHeads net c w.heads.items
  pub sizes : IsSizedFor net w

-- a walk is under way: its debts lead back from its start, its steps tell their debtors, and what
-- is told of the banks holds
pub record IsUnderWay (net : Net) (c : ℕ) (C : List ℕ) (w : Walk) : Type 0 where
  pub walk : IsWalk net c w.start.0 C (numbers w.steps.items) w.marks.items
  pub steps : All (IsStep net) w.steps.items
  pub told : IsTold net c C w

-- no walk is under way, and what is told of the banks holds
pub record IsAtRest (net : Net) (c : ℕ) (C : List ℕ) (w : Walk) : Type 0 where
  pub empty : w.steps.items ≡ []
  pub no_walk : HasNoWalk w.marks.items
  pub told : IsTold net c C w

-- what every step keeps of the claims and of the marks: claims of the class c fall, no other
-- changes, balances stay, and so does what is done
pub record IsKept (net : Net) (c : ℕ) (C D : List ℕ) (before after : List Mark) : Type 0 where
  pub as_many : length D ≡ length C
  pub falls : IsAtMost D C
  pub others : (x : ℕ) → class_of net x ≢ c → slice_index D x ≡ slice_index C x
  pub balances : (k b : ℕ) → IsBalanceKept net C k b → IsBalanceKept net D k b
  pub banks : length after ≡ length before
  pub stays : (b : ℕ) → mark_of before b ≡ Done → mark_of after b ≡ Done
