-- A journal that stands is that of a list of legal events, and the words of a board are its state.
use Rattle.std.proofs.Common.{◌≡◌, ℕ, zero, suc, ◌+◌, ◌<◌, ◌≤◌, All, List, [], ◌∷◌, ◌++◌, length, get_or, map, set, refl, sym, ap, ◌∙◌, subst, arith, append-nil, length-set, get_or-set_other, get_or-set_same}
use Rattle.std.specs.Prelude.{slice_index}
use Rattle.std.proofs.lemmas.Grind.{common_steps}
use Rattle.std.proofs.lemmas.List.{ext_get_or, length-replicate}
use Rattle.std.proofs.lemmas.List.Elements.{All-append, All-tail, All-weaker}
use mathlib.Core.Logic.{dite}
use native.Mathlib.Decide.{ℕ_discrete}
use mathlib.Core.List.{map-map}
use Rattle.clr_net.specs.Net.{Net, debt_numbers}
use Rattle.clear_core.specs.Clearing.{zeros}
use Rattle.clear_core.specs.History.{Stands, StandsFrom, journal_from, ordered, replayed, replayed_from}
use Rattle.clear_core.specs.Process.{AreLegal, Progress, after}
use Rattle.clear_core.specs.declared.event.Event.{Event}
use Rattle.clear_core.specs.declared.event.Event.TheVariants as event
use Rattle.clear_core.specs.declared.event.Raise.{Raise}
use Rattle.clear_core.proofs.Lawful.{stands_in_range}
use Rattle.clear_core.proofs.Ordered.{ordered_is_traced, ordered_stands}
use Rattle.clear_core.proofs.Pay.{pay_at}
use Rattle.pay_words.specs.BoardRule.{MeetsRule}
use Rattle.pay_words.specs.Ends.{values}
use Rattle.pay_words.specs.Events.{AreOfEvents, IsOfEvents, unstamped}
use Rattle.pay_words.specs.Standing.{MayStand, payments_in}
use Rattle.pay_words.specs.Traces.{AreLawfulTraces, Traces, ending, last_payment, raises_of}
use Rattle.pay_words.specs.Views.{BoardView}
use Rattle.pay_words.specs.declared.origin.Origin.{Origin}
use Rattle.pay_words.specs.declared.payment.Payment.{Payment}
use Rattle.pay_words.specs.declared.view.View.{View}
use Rattle.pay_words.proofs.Ends.{replays}
use Rattle.pay_words.proofs.Histories.{history_of, lawful_agree}
use Rattle.pay_words.proofs.Standing.{values_are}
use Rattle.pay_words.proofs.Tables.{tabled_agree}
use Rattle.pay_words.proofs.Traces.{raises_of-append, raises_of-none}

-- a load of the debt x
abbrev load : ℕ → Event
load x = event.Load (record { 0 = x })

-- n loads of the debts from a on, and then more events
abbrev loads_then : ℕ → ℕ → List Event → List Event
loads_then a zero es = es
loads_then a (suc n) es = load a ∷ loads_then (suc a) n es

-- before each raise all debts are loaded
abbrev events_of : Net → List Raise → List Event
events_of net [] = []
events_of net (r ∷ rs) = loads_then 0 (length net.debts) (event.Raise r.debt r.to ∷ events_of net rs)

-- what was seen once the n debts from a on are loaded
abbrev loaded : List ℕ → List ℕ → ℕ → ℕ → List ℕ
loaded P S a zero = S
loaded P S a (suc n) = loaded P (set S a (slice_index P a)) (suc a) n

-- loads keep how many debts were seen
length-loaded : (P S : List ℕ) (a n : ℕ) → length (loaded P S a n) ≡ length S
length-loaded P S a zero = refl
length-loaded P S a (suc n) = length-loaded P (set S a (slice_index P a)) (suc a) n ∙ length-set S a (slice_index P a)

-- a debt before these is seen as it was
loaded_before : (P S : List ℕ) (a n x : ℕ) → x < a → get_or (loaded P S a n) x 0 ≡ get_or S x 0
loaded_before P S a zero x lt = refl
loaded_before P S a (suc n) x lt = loaded_before P (set S a (slice_index P a)) (suc a) n x (omega (arith, lt))
    ∙ get_or-set_other S a x (slice_index P a) 0 (λ e. absurd (omega (arith, e, lt)))

-- a debt that was loaded was seen at what is paid on it
loaded_at : (P S : List ℕ) (a n x : ℕ) → a ≤ x → x < a + n → x < length S → get_or (loaded P S a n) x 0 ≡ get_or P x 0
loaded_at P S a zero x ge lt l = absurd (omega (arith, ge, lt))
loaded_at P S a (suc n) x ge lt l = dite (ℕ_discrete x a)
    (λ e. loaded_before P (set S a (slice_index P a)) (suc a) n x (omega (arith, e))
    ∙ ap (λ (k : ℕ). get_or (set S a (slice_index P a)) k 0) e ∙ get_or-set_same S a (slice_index P a) 0 (omega (arith, l, e)) ∙ ap (λ (k : ℕ). get_or P k 0) (sym e))
    (λ ne. loaded_at P (set S a (slice_index P a)) (suc a) n x (omega (arith, ge, ne)) (omega (arith, lt)) (omega (arith, l, length-set S a (slice_index P a))))

-- once all are loaded, what was seen is what is paid
all_loaded : (P S : List ℕ) (n : ℕ) → length P ≡ n → length S ≡ n → loaded P S 0 n ≡ P
all_loaded P S n p s = ext_get_or 0 (loaded P S 0 n) P (length-loaded P S 0 n ∙ s ∙ sym p)
    (λ x lt. let l : x < length S = omega (arith, lt, length-loaded P S 0 n) in loaded_at P S 0 n x (omega arith) (omega (arith, l, s)) l)

-- the state at which so much is paid, and so much was seen
abbrev at : List ℕ → List ℕ → Progress
at P S = record { paid = P; seen = S }

-- loads of n debts, and then some events, come to those events from what was loaded
after_loads : (P S : List ℕ) (a n : ℕ) (es : List Event) → after (at P S) (loads_then a n es) ≡ after (at P (loaded P S a n)) es
unfolding after
after_loads P S a zero es = refl
after_loads P S a (suc n) es = after_loads P (set S a (slice_index P a)) (suc a) n es

-- loads of known debts before legal events are legal
legal_loads : (net : Net) (P S : List ℕ) (a n : ℕ) (es : List Event) → a + n ≤ length net.debts → AreLegal net (at P (loaded P S a n)) es
    → AreLegal net (at P S) (loads_then a n es)
unfolding AreLegal
legal_loads net P S a zero es le h = h
legal_loads net P S a (suc n) es le h = (omega (arith, le), legal_loads net P (set S a (slice_index P a)) (suc a) n es (omega (arith, le)) h)

-- the raises of a list, without their stamps
abbrev bare : ℕ → List Event → List Raise
bare stamp es = map unstamped (journal_from stamp es)

-- loads leave no raise in the journal
bare_loads : (stamp a n : ℕ) (es : List Event) → bare stamp (loads_then a n es) ≡ bare (stamp + n) es
bare_loads stamp a zero es = let e : stamp ≡ stamp + 0 = omega arith in ap (λ (k : ℕ). bare k es) e
bare_loads stamp a (suc n) es = let e : stamp + 1 + n ≡ stamp + suc n = omega arith in bare_loads (stamp + 1) (suc a) n es ∙ ap (λ (k : ℕ). bare k es) e

-- the journal of the events of some raises has these raises, but for their stamps
bare_events : (net : Net) (stamp : ℕ) (rs : List Raise) → bare stamp (events_of net rs) ≡ map unstamped rs
bare_events net stamp [] = refl
bare_events net stamp (r ∷ rs) =
    let n = length net.debts in
    bare_loads stamp 0 n (event.Raise r.debt r.to ∷ events_of net rs) ∙ ap (λ (qs : List Raise). unstamped r ∷ qs) (bare_events net (stamp + n + 1) rs)

-- the state after the events, and that each is legal
after_events : (net : Net) (P S : List ℕ) (rs : List Raise) → length P ≡ length net.debts → length S ≡ length net.debts
    → (after (at P S) (events_of net rs)).paid ≡ replayed_from P rs
unfolding after replayed_from
after_events net P S [] p s = refl
after_events net P S (r ∷ rs) p s =
    let n = length net.debts in
    let Q = set P r.debt.0 r.to in
    ap (λ (g : Progress). g.paid) (after_loads P S 0 n (event.Raise r.debt r.to ∷ events_of net rs))
    ∙ ap (λ (seen : List ℕ). (after (at Q seen) (events_of net rs)).paid) (all_loaded P S n p s)
    ∙ after_events net Q P rs (length-set P r.debt.0 r.to ∙ p) p

-- the events of raises that stand are legal
legal_events : (net : Net) (stamp : ℕ) (P S : List ℕ) (rs : List Raise) → length P ≡ length net.debts → length S ≡ length net.debts
    → All (λ r. r.debt.0 < length net.debts) rs → StandsFrom net stamp P rs → AreLegal net (at P S) (events_of net rs)
unfolding AreLegal StandsFrom
legal_events net stamp P S [] p s known h = tt
legal_events net stamp P S (r ∷ rs) p s known h =
    let n = length net.debts in
    let x = r.debt.0 in
    let lx : x < n = known 0 r (omega arith) in
    legal_loads net P S 0 n (event.Raise r.debt r.to ∷ events_of net rs) (omega arith)
    (subst (λ (seen : List ℕ). AreLegal net (at P seen) (event.Raise r.debt r.to ∷ events_of net rs)) (sym (all_loaded P S n p s)) (
      (lx, h.1.0, omega (arith, h.1.1, pay_at net P x lx)),
      legal_events net r.stamp (set P x r.to) P rs (length-set P x r.to ∙ p) p (All-tail (λ q. q.debt.0 < n) r rs known) h.2,
    ))

-- a journal that stands is that of a list of legal events
pub of_events : (net : Net) (rs : List Raise) → Stands net rs → IsOfEvents net rs
of_events net rs stands =
    let size = length-replicate (length net.debts) 0 in
    record {
      events = events_of net rs;
      legal = legal_events net 0 (zeros net) (zeros net) rs size size (stands_in_range net rs stands) stands;
      raises = bare_events net 0 rs;
      paid = after_events net (zeros net) (zeros net) rs size size;
    }

-- the raises of the n debts from a on, debt by debt
abbrev gathered : Traces → ℕ → ℕ → List Raise
gathered t a zero = []
gathered t a (suc n) = t a ++ gathered t (suc a) n

-- raises of one debt alone
raises_of-all : (x : ℕ) (rs : List Raise) → All (λ r. r.debt.0 ≡ x) rs → raises_of x rs ≡ rs
raises_of-all x [] h = refl
raises_of-all x (r ∷ rs) h = grind (arith, common_steps, h 0 r (omega arith), raises_of-all x rs (All-tail (λ s. s.debt.0 ≡ x) r rs h))

module _ (t : Traces) (m : ℕ) (own : (x : ℕ) → x < m → All (λ r. r.debt.0 ≡ x) (t x)) where
  -- the gathered raises are of the debts that they were gathered for
  gathered_from : (a n : ℕ) → a + n ≤ m → All (λ r. (a ≤ r.debt.0) × (r.debt.0 < m)) (gathered t a n)
  gathered_from a zero le = λ k d l. absurd (omega (arith, l))
  gathered_from a (suc n) le = All-append (λ r. (a ≤ r.debt.0) × (r.debt.0 < m)) (t a) (gathered t (suc a) n)
      (λ k d l. let e = own a (omega (arith, le)) k d l in (omega (arith, e), omega (arith, e, le)))
      (λ k d l. let h = gathered_from (suc a) n (omega (arith, le)) k d l in (omega (arith, h.0), h.1))

  -- of each of these debts the gathered raises are its own
  of_gathered : (a n x : ℕ) → a + n ≤ m → a ≤ x → x < a + n → raises_of x (gathered t a n) ≡ t x
  of_gathered a zero x le ge lt = absurd (omega (arith, ge, lt))
  of_gathered a (suc n) x le ge lt = raises_of-append x (t a) (gathered t (suc a) n) ∙ dite (ℕ_discrete x a)
      (λ e.
      let none = raises_of-none x (gathered t (suc a) n) (λ k d l q. absurd (omega (arith, (gathered_from (suc a) n (omega (arith, le)) k d l).0, q, e))) in
      let all : raises_of x (t a) ≡ t a = raises_of-all x (t a) (λ k d l. own a (omega (arith, le)) k d l ∙ sym e) in
      ap (λ (rs : List Raise). rs ++ raises_of x (gathered t (suc a) n)) all ∙ ap (λ (rs : List Raise). t a ++ rs) none ∙ append-nil (t a) ∙ ap t (sym e))
      (λ ne.
      let none = raises_of-none x (t a) (λ k d l q. ne (sym q ∙ own a (omega (arith, le)) k d l)) in
      ap (λ (rs : List Raise). rs ++ raises_of x (gathered t (suc a) n)) none ∙ of_gathered (suc a) n x (omega (arith, le)) (omega (arith, ge, ne)) (omega (arith, lt)))

module _ (d : Origin) (words : List ℕ) (views : List View) (h : MeetsRule d words views) where
  -- the raises of each debt
  abbrev t : Traces
  t = h.history.trace

  -- how many debts there are
  abbrev n : ℕ
  n = length d.net.debts

  -- each raise in the trace of a debt is of that debt
  own : (x : ℕ) → x < n → All (λ r. r.debt.0 ≡ x) (t x)
  own x lx = All-weaker (λ r. (0 < r.to) × (r.debt.0 ≡ x)) (λ r. r.debt.0 ≡ x) (λ r q. q.1) (t x) (h.lawful.each x lx)

  -- all raises, debt by debt
  abbrev all : List Raise
  all = gathered t 0 n

  -- all raises of a debt are its trace
  same : (x : ℕ) → x < n → raises_of x all ≡ t x
  same x lx = of_gathered t n own 0 n x (omega arith) (omega arith) (omega (arith, lx))

  -- each of all raises is of a known debt
  known : All (λ r. r.debt.0 < n) all
  known = All-weaker (λ r. (0 ≤ r.debt.0) × (r.debt.0 < n)) (λ r. r.debt.0 < n) (λ r q. q.1) all (gathered_from t n own 0 n (omega arith))

  -- all raises, debt by debt, are lawful traces
  lawful : AreLawfulTraces d.net (λ x. raises_of x all)
  lawful = lawful_agree d.net t (λ x. raises_of x all) h.lawful same

  -- all raises in order replay to the values of the words
  paid_is : replayed d.net (ordered all) ≡ values (payments_in d.net words)
  paid_is = replays d.net all known lawful
      ∙ map-map (λ (p : Payment). p.value) (λ (x : ℕ). last_payment x all) (debt_numbers d.net)
      ∙ tabled_agree 0 n (λ x. (last_payment x all).value) (λ x. (ending (t x)).value) (λ x lx. ap (λ (rs : List Raise). (ending rs).value) (same x lx))
      ∙ sym (values_are d words views h)

  -- the values of the words are the state after a list of legal events
  words_of_events : AreOfEvents d.net (values (payments_in d.net words))
  words_of_events =
      let history = history_of d.net all lawful known in
      let stands = ordered_stands d.net all history in
      let run = of_events d.net (ordered all) stands in
      record { journal = ordered all; stands = stands; traced = ordered_is_traced d.net all history; of_events = run; paid_is = run.paid ∙ paid_is }

-- at each moment of a board
pub board_of_events : (board : BoardView) (words : List ℕ) → MayStand board words → AreOfEvents board.net (values (payments_in board.net words))
board_of_events board words may = words_of_events (record { net = board.net; past = board.past }) words may.0 may.1
