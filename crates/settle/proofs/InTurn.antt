-- Workers that make their rounds one after another.
use Rattle.std.proofs.Common.{◌≡◌, ℕ, ◌+◌, ◌<◌, ◌≤◌, true≢false, List, [], ◌∷◌, length, get_or, set, take, sym, ◌∙◌, arith, length-set}
use Rattle.std.proofs.lemmas.Bool.{false_from_ne_true}
use Rattle.std.proofs.lemmas.List.{get_or-set_other, get_or_default, take_more, take_more_set}
use Rattle.pay_words.specs.Views.{BoardView}
use Rattle.bank_worker.specs.Called.{AreCalledOrAtRest, KeepsOthers}
use Rattle.bank_worker.specs.Views.{WorkerView}
use Rattle.settle.specs.Calls.{AreApart}
use Rattle.settle.specs.Rounds.{AreReadyWorkers, AreRounded, no_worker, worker_at}
use Rattle.settle.proofs.Joined.{rounded_append, rounded_one}
use Rattle.bank_worker.specs.Grows.{MakesRound}
use Rattle.bank_worker.specs.declared.visit.Visit.TheVariants.{Raised}
use Rattle.bank_worker.specs.Ready.{IsReadyWorker}

-- the first n workers made their rounds, by so many units, and the others did nothing yet; each bank of these is called, or it is at rest
pub record TurnTo (sweeps units : ℕ) (olds news : List WorkerView) (n : ℕ) (called : List ℕ) : Type 0 where
  pub as_many : length news ≡ length olds
  pub rounded : AreRounded sweeps units (take n olds) (take n news)
  pub left : (i : ℕ) → n ≤ i → worker_at news i ≡ worker_at olds i
  pub waiting : (i : ℕ) → n ≤ i → i < length olds → AreCalledOrAtRest called (worker_at olds i).seat.shows (worker_at olds i).desks

-- the worker whose turn it is, as it stood in the list at first
pub turn_of : (sweeps units : ℕ) (olds news : List WorkerView) (n : ℕ) (called : List ℕ) (d : WorkerView) → n < length olds → TurnTo sweeps units olds news n called
    → get_or news n d ≡ worker_at olds n
turn_of sweeps units olds news n called d lt h = get_or_default news n d no_worker (omega (arith, lt, h.as_many)) ∙ h.left n (omega arith)

-- so that worker may make its round, and each of its banks is called, or it is at rest
pub turn_ready : (board : BoardView) (sweeps units : ℕ) (olds news : List WorkerView) (n : ℕ) (called : List ℕ) (d : WorkerView) → n < length olds → AreReadyWorkers board olds → TurnTo sweeps units olds news n called
    → IsReadyWorker board (get_or news n d) × AreCalledOrAtRest called (get_or news n d).seat.shows (get_or news n d).desks
turn_ready board sweeps units olds news n called d lt ready h =
    rw (turn_of sweeps units olds news n called d lt h) (ready n no_worker lt, h.waiting n (omega arith) lt)

-- another worker's banks stay called
others_called : (olds : List WorkerView) (n i : ℕ) (old new : List ℕ) → AreApart olds → n < length olds → i < length olds → n < i → KeepsOthers (worker_at olds n).seat.shows old new
    → AreCalledOrAtRest old (worker_at olds i).seat.shows (worker_at olds i).desks → AreCalledOrAtRest new (worker_at olds i).seat.shows (worker_at olds i).desks
others_called olds n i old new apart ln li less keeps h k lk out = h k lk (false_from_ne_true _ (λ was.
    true≢false (sym (keeps _ (apart n i ln li (λ e. omega (arith, e, less)) k lk) was) ∙ out)))

-- one worker more
pub turn_more : (sweeps units more : ℕ) (olds news : List WorkerView) (n : ℕ) (old new : List ℕ) (o w : WorkerView) → n < length olds → AreApart olds → TurnTo sweeps units olds news n old
    → o ≡ worker_at olds n → MakesRound sweeps (Raised more) o w → KeepsOthers o.seat.shows old new
    → TurnTo sweeps (units + more) olds (set news n w) (n + 1) new
turn_more sweeps units more olds news n old new o w lt apart h here m keeps =
    let lt' : n < length news = omega (arith, lt, h.as_many) in
    record {
      as_many = length-set news n w ∙ h.as_many;
      rounded = rw (take_more olds n no_worker lt, ← here, take_more_set news n w lt')
          (rounded_append sweeps units more (take n olds) (o ∷ []) (take n news) (w ∷ []) h.rounded (rounded_one sweeps more o w m));
      left = λ i le. get_or-set_other news n i w no_worker (λ e. omega (arith, e, le)) ∙ h.left i (omega (arith, le));
      waiting = λ i le li. others_called olds n i old new apart lt li (omega (arith, le)) (rw here at keeps) (h.waiting i (omega (arith, le)) li);
    }
