-- In which order a worker visits its banks.
use Rattle.std.specs.Prelude.{◌≡◌, ℕ, ◌≤◌, ◌++◌, All, List, [], ◌∷◌, flat_map, length}
use Rattle.pay_words.specs.declared.view.Act.{Act}
use Rattle.pay_words.specs.declared.view.Act.TheVariants as act
use Rattle.bank_worker.specs.Rising.{Rises}
use Rattle.bank_worker.specs.Views.{WorkerView}

-- the bank whose bell was found up, where it was
abbrev pub bank_taken : Act → List ℕ
bank_taken (act.Look x p) = []
bank_taken (act.Raise x) = []
bank_taken (act.Ring b) = []
bank_taken (act.Take b) = b.0 ∷ []

-- the banks whose bells were found up, in this order
abbrev pub banks_taken : List Act → List ℕ
banks_taken acts = flat_map bank_taken acts

-- what was done from old to new are at most so many sweeps, one after another. In each of them the
-- banks whose bells were found up, and so the banks that were visited, stand in file order
pub record AreSweeps (sweeps : ℕ) (old new : WorkerView) : Type 0 where
  pub parts : List (List Act)
  pub few : length parts ≤ sweeps
  pub in_file_order : All (λ acts. Rises (banks_taken acts)) parts
  pub acts : new.seat.shows.acts ≡ old.seat.shows.acts ++ flat_map (λ acts. acts) parts
