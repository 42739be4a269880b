-- By which workers the raises of a run were made.
use Rattle.std.proofs.Common.{◌≡◌, ℕ, suc, ◌+◌, ◌*◌, ◌<◌, All, List, [], ◌∷◌, ◌++◌, length, length-append, refl, sym, ap, ◌∙◌, arith, append-nil, append_assoc, sum_by}
use Rattle.std.proofs.lemmas.Grind.{flat_map-append}
use Rattle.std.proofs.lemmas.List.Elements.{All-append, All-push}
use Rattle.std.proofs.lemmas.List.Sums.{sum_by-append, sum_by_push}
use Rattle.clr_net.specs.Net.{Net}
use Rattle.clear_core.specs.History.{ordered}
use Rattle.clear_core.specs.declared.event.Raise.{Raise}
use Rattle.pay_words.specs.declared.view.Shown.{Shown}
use Rattle.pay_words.specs.Traces.{start_of}
use Rattle.pay_words.specs.Views.{opening}
use Rattle.bank_worker.specs.Views.{WorkerView}
use Rattle.settle.specs.Between.{IsRoundByVisits, opened_workers, raised_by_all}
use Rattle.settle.specs.Drives.{AreRoundsFrom}
use Rattle.settle.specs.Made.{AreMadeByBells, IsAllByBells, IsJournalByBells, WorkerRound, raises_in, worker_rounds, workers_of, workers_of_run}
use Rattle.settle.specs.Rounds.{worker_at}
use Rattle.settle.specs.Runs.{IsSettled}
use Rattle.settle.specs.declared.plan.Plan.{Plan}
use Rattle.settle.specs.declared.runs.Settled.{Settled}
use Rattle.settle.proofs.Handed.{length-opened_workers, opened_worker_at}

-- the visits of some workers' rounds
abbrev visits_in : List WorkerRound → ℕ
visits_in xs = sum_by (λ w. w.new.visits) xs

-- these are the workers of one round, as they ended
record AreOf (ws : List WorkerView) (xs : List WorkerRound) : Type 0 where
  by_bells : All IsAllByBells xs
  raises : raises_in xs ≡ raised_by_all ws
  visits : visits_in xs ≡ sum_by (λ w. w.visits) ws
  as_many : length xs ≡ length ws

-- so they are where each of them did nothing but visits by bells
worker_rounds_made : (os ws : List WorkerView) → length ws ≡ length os
    → ((i : ℕ) → i < length os → IsAllByBells (record { old = worker_at os i; new = worker_at ws i })) → AreOf ws (worker_rounds os ws)
worker_rounds_made [] [] l h = record { by_bells = λ k d lt. absurd (omega (arith, lt)); raises = refl; visits = refl; as_many = refl }
worker_rounds_made [] (w ∷ ws) l h = absurd (omega (arith, l))
worker_rounds_made (o ∷ os) [] l h = absurd (omega (arith, l))
worker_rounds_made (o ∷ os) (w ∷ ws) l h =
    let own : WorkerRound = record { old = o; new = w } in
    let rest = worker_rounds os ws in
    let a = worker_rounds_made os ws (omega (arith, l)) (λ i lt. h (suc i) (omega (arith, lt))) in
    let each : sum_by (λ (k : WorkerView). k.visits) (w ∷ ws) ≡ 0 + w.visits + sum_by (λ (k : WorkerView). k.visits) ws = sum_by-append (λ (k : WorkerView). k.visits) (w ∷ []) ws in
    record {
      by_bells = All-push IsAllByBells rest own a.by_bells (h 0 (omega arith));
      raises = simp (flat_map-append, a.raises, append-nil);
      visits = sum_by_push (λ (x : WorkerRound). x.new.visits) rest own ∙ omega (arith, a.visits, each);
      as_many = omega (arith, length-append rest (own ∷ []), a.as_many);
    }

-- the workers of a round, which were handed their seats as it began
made_in_round : (net : Net) (plan : Plan) (units visits : ℕ) (s t : Shown) (r : IsRoundByVisits net plan units visits s t)
    → AreOf r.workers (worker_rounds (opened_workers plan.workers r.table s plan.workers) r.workers)
made_in_round net plan units visits s t r =
    let w = plan.workers in
    let os = opened_workers w r.table s w in
    worker_rounds_made os r.workers r.rounded.as_many (λ i lt.
    let m = r.rounded.each i lt in
    let is = opened_worker_at w r.table s w i (omega (arith, lt, length-opened_workers w r.table s w)) in
    record {
      no_visit = ap (λ (c : WorkerView). c.visits) is;
      no_act = ap (λ (c : WorkerView). c.seat.shows.acts) is;
      no_raise = ap (λ (c : WorkerView). c.seat.shows.raises) is;
      units = m.units;
      by_visits = m.rounded.gone.by_visits;
    })

-- the workers of rounds one after another, who are as many as rounds times workers
rounds_made : (net : Net) (plan : Plan) (s t : Shown) (ns : List ℕ) (rounds : AreRoundsFrom net plan s ns t)
    → AreMadeByBells (workers_of net plan s t ns rounds) s t × (length (workers_of net plan s t ns rounds) ≡ length ns * plan.workers)
rounds_made net plan s t [] is = (
  record {
    by_bells = λ k d lt. absurd (omega (arith, lt));
    raises = ap (λ (u : Shown). u.raises) is ∙ sym (append-nil s.raises);
    visits = omega (arith, ap (λ (u : Shown). u.taken) is);
  },
  omega arith,
)
rounds_made net plan s t (n ∷ ns) (m, visits, before, r) =
    let w = plan.workers in
    let xs = workers_of net plan s m ns before in
    let ys = worker_rounds (opened_workers w r.by_visits.table m w) r.by_visits.workers in
    let a = rounds_made net plan s m ns before in
    let b = made_in_round net plan n visits m t r.by_visits in (
      record {
        by_bells = All-append IsAllByBells xs ys a.0.by_bells b.by_bells;
        raises = simp (r.by_visits.raises, a.0.raises, flat_map-append, b.raises, append_assoc);
        visits = omega (arith, r.visits_are, r.by_visits.visits_are, a.0.visits, b.visits, sum_by-append (λ (x : WorkerRound). x.new.visits) xs ys);
      },
      omega (arith, length-append xs ys, a.1, b.as_many, r.by_visits.rounded.as_many, length-opened_workers w r.by_visits.table m w),
    )

-- the raises of all rounds were made in visits by bells
pub made_in_rounds : (net : Net) (plan : Plan) (s t : Shown) (ns : List ℕ) (rounds : AreRoundsFrom net plan s ns t)
    → AreMadeByBells (workers_of net plan s t ns rounds) s t
made_in_rounds net plan s t ns rounds = (rounds_made net plan s t ns rounds).0

-- the workers of a run
pub journal_made : (net : Net) (past : List Raise) (plan : Plan) (settled : Settled) (run : IsSettled net past plan settled)
    → IsJournalByBells past (workers_of_run run.at_rest.rounds_are) (settled.rounds * plan.workers) settled.visits settled.sealed.journal
journal_made net past plan settled run =
    let rest = run.at_rest in
    let s = opening net (start_of net past) in
    let ns = 0 ∷ rest.rounds_are.raised in
    let both = rounds_made net plan s rest.master ns rest.rounds_are.ran in
    let made = both.0 in
    record {
      as_many = both.1 ∙ ap (λ n. n * plan.workers) (omega (arith, rest.rounds_are.as_many));
      by_bells = made.by_bells;
      journal_is = rest.journal_is ∙ ap (λ rs. ordered (past ++ rs)) made.raises;
      visits_are = omega (arith, made.visits, rest.visits_are);
    }
