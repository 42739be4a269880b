-- What a round of all workers leaves, once the seats are back.
use Rattle.std.proofs.Common.{◌≡◌, ◌≢◌, ℕ, suc, ◌+◌, ◌*◌, ◌<◌, ◌≤◌, true, true≢false, List, [], ◌∷◌, ◌++◌, length, get_or, map, sum, inr, refl, sym, ap, ◌∙◌, subst, arith, eq-eqb, length-append, inl}
use Rattle.std.specs.Prelude.{◌%◌, sum_by, slice_index}
use Rattle.std.proofs.lemmas.Bool.{cases_lt}
use Rattle.std.proofs.lemmas.List.{get_or-map, get_or_past, length-map}
use Rattle.std.proofs.lemmas.List.FromFn.{length-range_with_len}
use Rattle.std.proofs.lemmas.List.Sums.{get_or-le-sum_by, sum-map, sum_by-cons, sum_by-le-sum_by}
use Rattle.clear_core.specs.Clearing.{least}
use Rattle.clr_net.specs.Amounts.{IsAtMost}
use Rattle.clr_net.specs.declared.TheConstants.{MAX_BANKS}
use Rattle.clr_net.specs.Net.{Net, row, debtor_of, creditor_of}
use Rattle.clr_net.proofs.Lists.{same_from_sum, sum_rises, sums_agree}
use Rattle.bank_desk.specs.Desks.{desk_of}
use Rattle.pay_words.specs.declared.view.Shown.{Shown}
use Rattle.pay_words.specs.Views.{BoardView, IsOver, handed, holds}
use Rattle.bank_worker.specs.Views.{Divides, WorkerView, banks_held, desk_at, desks_held, no_desk, paid_by, paid_by_all}
use Rattle.bank_worker.proofs.Filtered.{filter_finds, row_finds}
use Rattle.bank_worker.proofs.Manned.{few_desks}
use Rattle.bank_worker.proofs.Sweeping.{divides_kept, few_in_all, paid_by_kept}
use mathlib.Core.Logic.{dite}
use native.Mathlib.Decide.{ℕ_discrete}
use Rattle.settle.specs.Between.{AreOfBoard, IsBack, IsBetween, IsRoundOf, opened_worker, opened_workers, raises_by, raised_by_all, shown_by, without_first}
use Rattle.settle.specs.Calls.{HaveCalledFrom, OthersAreAtRest}
use Rattle.settle.specs.Rounds.{AreRounded, MadeRound, no_worker, paid_by_worker, worker_at}
use Rattle.std.specs.List.{range_with_len}
use Rattle.bank_worker.proofs.Rooms.{banks_of_seat}
use Rattle.settle.proofs.Ended.{all_held, made_round as made_by, no_ring_left, none_pending}
use Rattle.settle.proofs.Shares.{all_shares}
use Rattle.settle.proofs.Handed.{IsRest, opened_worker_at, first_rest, handed_holds, length-opened_workers, handed_desk}

-- of two lists, of which one gives nowhere less than the other, with a sum no greater: they give the same in each place
agree_where_sums_do : {A : Type 0} (d : A) (f g : A → ℕ) (xs ys : List A) → length ys ≡ length xs → ((k : ℕ) → k < length xs → f (get_or xs k d) ≤ g (get_or ys k d)) → sum_by g ys ≤ sum_by f xs
    → (k : ℕ) → k < length xs → f (get_or xs k d) ≡ g (get_or ys k d)
agree_where_sums_do d f g xs ys l below sums k lk =
    let at_most : IsAtMost (map f xs) (map g ys) = λ j. elim (cases_lt j (length xs)) [
      | inl lt ↦ omega (arith, get_or-map f xs j d 0 lt, get_or-map g ys j d 0 (omega (arith, lt, l)), below j lt)
      | inr ge ↦ omega (arith, get_or_past (map f xs) j 0 (omega (arith, length-map xs f)))
    ] in
    let same = same_from_sum (map f xs) (map g ys) (length-map xs f ∙ sym l ∙ sym (length-map ys g)) at_most (omega (arith, sum-map f xs, sum-map g ys)) in
    sym (get_or-map f xs k d 0 lk) ∙ ap (λ zs. get_or zs k 0) same ∙ get_or-map g ys k d 0 (omega (arith, lk, l))

-- two lists that give the same in each place have one sum
lists_equal_sums : {A : Type 0} (d : A) (f : A → ℕ) (xs ys : List A) → length ys ≡ length xs → ((k : ℕ) → k < length xs → f (get_or xs k d) ≡ f (get_or ys k d)) → sum_by f xs ≡ sum_by f ys
lists_equal_sums d f [] [] l h = refl
lists_equal_sums d f [] (y ∷ ys) l h = absurd (omega (arith, l))
lists_equal_sums d f (x ∷ xs) [] l h = absurd (omega (arith, l))
lists_equal_sums d f (x ∷ xs) (y ∷ ys) l h = omega (arith, sum_by-cons f x xs, sum_by-cons f y ys, h 0 (omega arith), lists_equal_sums d f xs ys (omega (arith, l)) (λ k lk. h (suc k) (omega (arith, lk))))

-- how many raises there are of all workers
length-raised_by_all : (ws : List WorkerView) → length (raised_by_all ws) ≡ sum_by raises_by ws
length-raised_by_all [] = refl
length-raised_by_all (w ∷ ws) = omega
    (arith, length-append (raised_by_all ws) w.seat.shows.raises, sum_by-cons raises_by w ws, length-raised_by_all ws)

module _ (board : BoardView) (net : Net) (s : Shown) (w sweeps n : ℕ) (news : List WorkerView) (here : net ≡ board.net) (workers : w ≡ board.table.workers) (some : 1 ≤ w) (few_sweeps : sweeps ≤ 1000)
    (between : IsBetween net s) (rounded : AreRounded sweeps n (opened_workers w board.table s w) news) where
  -- as many workers come back as went
  as_many : length news ≡ w
  as_many = rounded.as_many ∙ length-opened_workers w board.table s w

  -- each has made its round
  pub made_round : (i : ℕ) → i < w → MadeRound sweeps (opened_worker w board.table s i) (worker_at news i)
  made_round = made_by net board.table s w sweeps n news some between.net_is rounded

  -- each shows the same network
  net_of : (i : ℕ) → i < w → (worker_at news i).seat.shows.net ≡ net
  net_of i lt = (made_round i lt).same.seat.net ∙ between.net_is

  -- each worker may give its seat back
  pub of_board : AreOfBoard board news
  of_board i li =
      let lt : i < w = omega (arith, li, as_many) in
      let m = made_round i lt in
      let desks = few_desks (handed w i s) (desks_held (handed w i s)) refl in
      let banks : length s.net.banks ≤ MAX_BANKS = omega (arith, between.network.banks_in_limit, ap (λ (m : Net). length m.banks) between.net_is) in
      record {
        at = (m.same.table, net_of i lt ∙ here);
        worker = m.same.worker;
        not_the_master = m.same.seat.master;
        banks = rw (← workers, ← here, ← between.net_is) m.same.seat.banks;
        no_rings = m.rounded.gone.no_rings;
        by_bells = omega (arith, m.visits.by_bells);
        few_visits = omega (arith, m.visits.at_most, few_in_all sweeps (length (desks_held (handed w i s))) few_sweeps (omega arith));
      }

  -- all visits are at most so many sweeps over all banks
  few_in_round : sum_by (λ (k : WorkerView). k.visits) news ≤ sweeps * length net.banks
  few_in_round =
      let nb = length net.banks in
      omega (
        arith,
        length-range_with_len 0 nb,
        ap (λ n. sweeps * n) (length-range_with_len 0 nb),
        all_shares no_worker (λ (k : WorkerView). k.visits) sweeps w (range_with_len 0 nb) news (λ i ln.
            let li : i < w = omega (arith, ln, as_many) in
            let h = handed w i s in
            let desks = length-map (banks_held h) (desk_of s.net)
            ∙ sym (ap length (banks_of_seat net h w i (sym between.net_is) (λ b lb. handed_holds net w i s b between.net_is lb))) in
            omega (arith, (made_round i li).visits.at_most, ap (λ n. sweeps * n) desks)),
      )

  -- where no worker's banks pay more, nothing was raised
  none_more : ((i : ℕ) → i < w → paid_by_worker (opened_worker w board.table s i) ≡ paid_by_worker (worker_at news i)) → n ≡ 0
  none_more same = omega (
    arith,
    rounded.rose,
    lists_equal_sums no_worker paid_by_worker (opened_workers w board.table s w) news rounded.as_many (λ i lo.
        let li : i < w = omega (arith, lo, length-opened_workers w board.table s w) in
        rw (opened_worker_at w board.table s w i li) (same i li)),
  )

  -- where units were raised, some worker made a raise
  some_raise : n ≢ 0 → 1 ≤ sum_by raises_by news
  some_raise some_units = elim (cases_lt 0 (sum_by raises_by news)) [
    | inl some ↦ some
    | inr none ↦ absurd (some_units (none_more (λ i li.
        let m = made_round i li in
        let few = get_or-le-sum_by raises_by news i no_worker (omega (arith, li, as_many)) in
        dite (ℕ_discrete m.units 0) (λ u. omega (arith, m.rounded.gone.grows.rose, u)) (λ more. absurd (omega (arith, m.rounded.gone.grows.seat.raises.1 more, none, few))))))
  ]

  -- the worker of the bank b has brought it to rest
  module _ (b : ℕ) (lb : b < length net.banks) where
    -- the bank's worker is one of them
    pub worker_of : b % w < w
    worker_of = omega arith

    -- and has a desk for the bank
    place : (k : ℕ) × (k < length (worker_at news (b % w)).desks) × (desk_at (worker_at news (b % w)).desks k ≡ desk_of net b)
    place =
        let h = handed w (b % w) s in
        let f = filter_finds (holds h) (length s.net.banks) b (rw (between.net_is) lb) (handed_holds net w (b % w) s b between.net_is lb ∙ eq-eqb (b % w) (b % w) refl) in
        let same : (worker_at news (b % w)).desks ≡ desks_held h = (made_round (b % w) worker_of).same.desks in (
          f.0,
          omega (arith, ap length same, length-map (banks_held h) (desk_of s.net), f.1),
          rw (same, get_or-map (desk_of s.net) (banks_held h) f.0 0 no_desk f.1, f.2) (ap (λ (m : Net). desk_of m b) between.net_is),
        )

  -- once all seats are back
  module _ (m t : Shown) (over : IsOver t) (back : IsBack board.table.workers board.net m news t 0) where
    -- all seats are back
    back' : IsBack w net m news t 0
    back' = subst (λ (k : ℕ). IsBack k net m news t 0) (sym workers) (subst (λ (n : Net). IsBack board.table.workers n m news t 0) (sym here) back)

    -- the worker of a bank came back
    lw : (b : ℕ) → b % w < length news
    lw b = omega (arith, as_many)

    -- the debtor of a debt is a bank
    debtor : (x : ℕ) → x < length net.debts → debtor_of net x < length net.banks
    debtor x lx = (between.network.each_debt x lx).debtor_known

    -- and so is its creditor
    creditor : (x : ℕ) → x < length net.debts → creditor_of net x < length net.banks
    creditor x lx = (between.network.each_debt x lx).creditor_known

    -- the master shows of a debt what the debtor's seat shows
    paid_is : (x : ℕ) → x < length net.debts → get_or t.paid x 0 ≡ get_or (shown_by w news (debtor_of net x)).paid x 0
    paid_is x lx = back'.paid x lx (omega arith) (lw (debtor_of net x))

    -- and of its sight what the creditor's seat shows
    sight_is : (x : ℕ) → x < length net.debts → get_or t.sights x 0 ≡ get_or (shown_by w news (creditor_of net x)).sights x 0
    sight_is x lx = back'.sights x lx (omega arith) (lw (creditor_of net x))

    -- each bank has divided what was seen
    all_divide : (b : ℕ) → b < length net.banks → Divides t (desk_of net b)
    all_divide b lb = divides_kept net (desk_of net b) (shown_by w news b) t refl
        (λ x lx e. paid_is x lx ∙ ap (λ c. get_or (shown_by w news c).paid x 0) e)
        (λ x lx e. sight_is x lx ∙ ap (λ c. get_or (shown_by w news c).sights x 0) e)
        (rw (place b lb).2 at ((made_round (b % w) (worker_of b lb)).rounded.at_rest.divide (place b lb).0 (place b lb).1))

    -- what was paid before the round was seen in it
    all_seen : (x : ℕ) → x < length net.debts → get_or s.paid x 0 ≤ get_or t.sights x 0
    all_seen x lx =
        let b = creditor_of net x in
        let li = worker_of b (creditor x lx) in
        let m = made_round (b % w) li in
        let p = place b (creditor x lx) in
        let seen = m.rounded.at_rest.seen p.0 p.1 x (rw (net_of (b % w) li) lx) (rw (net_of (b % w) li, p.2) refl) in
        omega (arith, sight_is x lx, seen, ap (λ fs. get_or fs x 0) m.same.seat.floor, between.floor x lx)

    -- and no payment fell
    none_fell : (x : ℕ) → x < length net.debts → get_or s.paid x 0 ≤ get_or t.paid x 0
    none_fell x lx =
        let m = made_round (debtor_of net x % w) (worker_of (debtor_of net x) (debtor x lx)) in
        omega (arith, paid_is x lx, m.rounded.gone.grows.seat.none_fell x (rw (between.net_is) lx))

    -- so it is a state between two rounds again
    pub between_again : t.master ≡ true → IsBetween net t
    between_again master = record {
      network = between.network;
      net_is = back'.net_is;
      master = master;
      over = over;
      holds_all = all_held net board.table s w sweeps n news some between.net_is rounded m t between.network back';
      no_rings = no_ring_left net board.table s w sweeps n news some between.net_is rounded m t between.network back';
      calm = none_pending net board.table s w sweeps n news some between.net_is rounded m t between.network back';
      rest = λ b lb. inr (all_divide b lb);
      floor = λ x lx. back'.floor x lx (omega arith) (lw (debtor_of net x)) ∙ sym (paid_is x lx);
    }

    -- a bank that is not called has seen all that is paid to it: no debt to it was raised, since the creditors of all raises are called
    pub others_at_rest : (called : List ℕ) → IsBetween net t → HaveCalledFrom 0 net called news → OthersAreAtRest net called t
    others_at_rest called again calls b lb out = record {
      divides = all_divide b lb;
      seen = λ x lt owed.
          let lx = rw (back'.net_is) at lt in
          let i = debtor_of net x % w in
          elim ((made_round i (worker_of (debtor_of net x) (debtor x lx))).rounded.gone.grows.told x (rw (between.net_is) lx)) [
            | inl r ↦ absurd (true≢false (sym (calls i (omega arith) (lw (debtor_of net x)) x lx r) ∙ rw (rw (back'.net_is) at owed) out))
            | inr same ↦ omega (arith, again.floor x lx, paid_is x lx, same, all_seen x lx)
          ];
    }

    -- what a worker's debts are paid more than before
    fell_nowhere : (i : ℕ) → i < w → (x : ℕ) → get_or s.paid x 0 ≤ get_or (worker_at news i).seat.shows.paid x 0
    fell_nowhere i li x = elim (cases_lt x (length s.net.debts)) [
      | inl lx ↦ (made_round i li).rounded.gone.grows.seat.none_fell x lx
      | inr ge ↦ omega (arith, get_or_past s.paid x 0 (omega (arith, ge, between.over.paid)))
    ]

    -- a round that raised nothing left all payments as they were
    none_rose : n ≡ 0 → (x : ℕ) → x < length net.debts → get_or t.paid x 0 ≡ get_or s.paid x 0
    none_rose zero_units x lx =
        let b = debtor_of net x in
        let lb = debtor x lx in
        let i = b % w in
        let li = worker_of b lb in
        let olds = opened_workers w board.table s w in
        let u = (worker_at news i).seat.shows in
        let pay_same : paid_by_worker (worker_at olds i) ≡ paid_by_worker (worker_at news i) =
        agree_where_sums_do no_worker paid_by_worker paid_by_worker olds news rounded.as_many
        (λ k lk. let lk' : k < w = omega (arith, lk, length-opened_workers w board.table s w) in omega
        (arith, ap paid_by_worker (opened_worker_at w board.table s w k lk'), (made_round k lk').rounded.gone.grows.rose))
        (omega (arith, rounded.rose)) i (omega (arith, li, length-opened_workers w board.table s w)) in
        let desks = (worker_at news i).desks in
        let all_same : paid_by_all u desks ≡ paid_by_all s desks = rw ((made_round i li).same.desks) (rw (opened_worker_at w board.table s w i li, (made_round i li).same.desks) at (sym pay_same)) in
        let p = place b lb in
        let desk_same : paid_by s (desk_of net b) ≡ paid_by u (desk_of net b) =
        ap (paid_by s) (sym p.2)
        ∙ agree_where_sums_do no_desk (paid_by s) (paid_by u) desks desks refl
        (λ k lk. sum_by-le-sum_by (slice_index s.paid) (slice_index u.paid) (desk_at desks k).debts_out (fell_nowhere i li)) (omega (arith, all_same)) p.0 p.1
        ∙ ap (paid_by u) p.2 in
        let f = row_finds net b x lx refl in
        let here_same = agree_where_sums_do 0 (slice_index s.paid) (slice_index u.paid) (row net b) (row net b) refl (λ k lk. fell_nowhere i li (get_or (row net b) k 0)) (omega (arith, desk_same)) f.0 f.1 in
        paid_is x lx ∙ ap (slice_index u.paid) (sym f.2) ∙ sym here_same ∙ ap (slice_index s.paid) f.2

    -- where all payments stayed, the round raised nothing
    raised_nothing : ((x : ℕ) → x < length net.debts → get_or t.paid x 0 ≡ get_or s.paid x 0) → n ≡ 0
    raised_nothing same = none_more (λ i li.
        let h = handed w i s in
        let u = (worker_at news i).seat.shows in
        let ds = desks_held h in
        let desks_same : sum_by (paid_by s) ds ≡ sum_by (paid_by u) ds = sums_agree no_desk (paid_by s) (paid_by u) ds (λ k lk.
        let f = handed_desk net w i s k between lk in
        sym (paid_by_kept net (desk_at ds k) s u f.known (λ x lx e.
        ap (λ j. get_or (worker_at news j).seat.shows.paid x 0) (sym f.mine) ∙ ap (λ c. get_or (shown_by w news c).paid x 0) (sym e) ∙ sym (paid_is x lx) ∙ same x lx))) in
        desks_same ∙ ap (λ es. paid_by_all u es) (sym (made_round i li).same.desks))

    -- if a unit was raised, more is paid
    some_rose : n ≢ 0 → sum s.paid + 1 ≤ sum t.paid
    some_rose some_units =
        let size = rw (between.net_is) at between.over.paid in
        let low : IsAtMost s.paid t.paid = λ x. elim (cases_lt x (length net.debts)) [
          | inl lx ↦ none_fell x lx
          | inr ge ↦ omega (arith, get_or_past s.paid x 0 (omega (arith, ge, size)))
        ] in
        omega (arith, sum_rises s.paid t.paid (size ∙ sym (rw (back'.net_is) at over.paid)) low (λ e. some_units (raised_nothing (λ x lx. ap (λ P. get_or P x 0) (sym e)))))

    -- the round, where the master shows so many takes and the workers' raises more, and nothing above the least payments
    pub round_is : (visits : ℕ) → m ≡ without_first w w s → t.taken ≡ m.taken + visits → visits ≡ sum_by (λ (k : WorkerView). k.visits) news
        → t.raises ≡ m.raises ++ raised_by_all news
        → IsAtMost t.paid (least t.net) → IsAtMost t.sights (least t.net) → IsRoundOf net (record { workers = w; sweeps = sweeps }) n visits s t
    round_is visits is taken in_all made paid_low sights_low =
        let rest = subst (IsRest w s) (sym is) (first_rest w w s) in
        let many : length t.raises ≡ length m.raises + sum_by raises_by news = omega
        (arith, ap length made, length-append m.raises (raised_by_all news), length-raised_by_all news) in
        record {
          grown = record {
            net = back'.net_is ∙ sym between.net_is;
            none_fell = λ x lx. none_fell x (omega (arith, lx, ap (λ (m : Net). length m.debts) between.net_is));
            taken = omega (arith, taken, rest.taken);
            raises = (omega (arith, many, ap length rest.raises), λ some. omega (arith, many, ap length rest.raises, some_raise some));
          };
          some_rose = some_rose;
          none_rose = none_rose;
          divide = all_divide;
          seen = all_seen;
          visits_are = omega (arith, taken, rest.taken);
          visits_by_banks = subst (λ k. k ≤ sweeps * length net.banks) (sym in_all) few_in_round;
          seats = back'.seats ∙ rest.seats;
          paid_low = subst (λ (k : Net). IsAtMost t.paid (least k)) back'.net_is paid_low;
          sights_low = subst (λ (k : Net). IsAtMost t.sights (least k)) back'.net_is sights_low;
          by_visits = record {
            table = board.table;
            workers = news;
            rounded = rounded;
            raises = made ∙ ap (λ rs. rs ++ raised_by_all news) rest.raises;
            visits_are = in_all;
            back = subst (λ (u : Shown). IsBack w net u news t 0) is back';
          };
        }
