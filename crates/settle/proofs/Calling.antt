-- The banks that are called while workers leave.
use Rattle.std.proofs.Common.{◌≡◌, ℕ, ◌+◌, ◌<◌, ◌≤◌, true, true≢false, List, sym, ap, ◌∙◌, subst, ⊎_elim, arith}
use Rattle.std.proofs.lemmas.Bool.{cases_lt}
use Rattle.clr_net.specs.Limits.{IsNetwork}
use Rattle.clr_net.specs.Net.{Net, creditor_of}
use Rattle.clr_net.specs.declared.TheConstants.{MAX_BANKS}
use Rattle.clear_core.specs.declared.event.Raise.{Raise}
use Rattle.pay_words.specs.declared.view.Shown.{Shown}
use Rattle.bank_worker.specs.BankSets.{is_in}
use Rattle.bank_worker.specs.Called.{AreCreditorsIn, StayIn}
use Rattle.bank_worker.specs.Views.{WorkerView}
use Rattle.settle.specs.Calls.{HaveCalledFrom, OthersAreAtRest}
use Rattle.settle.specs.Rounds.{worker_at}

-- the raises of one worker more
pub called_from : (net : Net) (old new : List ℕ) (ws : List WorkerView) (n : ℕ) (rs : List Raise) → HaveCalledFrom (n + 1) net old ws → StayIn old new
    → rs ≡ (worker_at ws n).seat.shows.raises → AreCreditorsIn net new rs → HaveCalledFrom n net new ws
called_from net old new ws n rs h stay e own i le li = ⊎_elim
    (λ (l : i < n + 1).
    let same : n ≡ i = omega (arith, le, l) in
    subst (AreCreditorsIn net new) (e ∙ ap (λ k. (worker_at ws k).seat.shows.raises) same) own)
    (λ (l : n + 1 ≤ i). λ x lx r. stay (creditor_of net x) (h i l li x lx r))
    (cases_lt i (n + 1))

-- where all banks are called there is nothing to show
pub all_called : (net : Net) (called : List ℕ) (s : Shown) → IsNetwork net → ((b : ℕ) → b < MAX_BANKS → is_in called b ≡ true) → OthersAreAtRest net called s
all_called net called s network all b lb out = absurd (true≢false (sym (all b (omega (arith, lb, network.banks_in_limit))) ∙ out))
