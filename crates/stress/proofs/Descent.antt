-- Going down from cut to cut: what is known of each bank, and which banks are to pay anew.
use Rattle.std.proofs.Common.{◌≡◌, ◌↔◌, ℕ, ◌+◌, ◌<◌, ◌≤◌, ◌==◌, ◌&&◌, not, cond, Bool, false, true, List, [], ◌∷◌, length, get_or, map, max, min, nat_lt, nat_le, sum_by, replicate, Result, Vec, Global, refl, sym, ap, ◌∙◌, subst, ⊎_elim, arith}
use Rattle.std.specs.Result.{IfOk}
use Rattle.std.proofs.lemmas.Bool.Decides.{nat_tests}
use Rattle.std.proofs.lemmas.Bool.{cases_lt, eqb-false, eqb-true, lt-ltb}
use Rattle.std.proofs.lemmas.Result.{IfOk-weaker}
use Rattle.std.proofs.lemmas.List.{get_or-map, get_or-replicate, length-map, length-replicate}
use Rattle.std.proofs.lemmas.List.FromFn.{fill_by_all, get_or-map-range_with_len, length-map-range_with_len}
use Rattle.std.proofs.lemmas.List.Sums.{sum-map}
use Rattle.clr_net.specs.Limits.{IsNetwork}
use Rattle.clr_net.specs.Net.{Net, claim_of, place_in_row, row}
use Rattle.clear_core.specs.Clearing.{IsOnWayBy, least, spend, zeros}
use Rattle.clear_core.specs.Raised.{is_marked}
use Rattle.clear_core.proofs.Least.{begins_by, least_clears}
use Rattle.clear_core.proofs.Pay.{pay_by_within, spend_mono}
use Rattle.clear_core.proofs.Rows.{debt_of_bank}
use Rattle.clear_least.specs.Sweeps.{IsQuietBy, IsSwept}
use Rattle.cascade.specs.declared.standing.Health.{Health}
use Rattle.cascade.specs.declared.standing.Health.TheVariants.{Sound}
use Rattle.cascade.specs.Standings.{bank_numbers, is_sound, paid_by}
use Rattle.cascade.proofs.Healths.{sound_enough, sound_told}
use Rattle.cascade.proofs.Limits.{clearing_within}
use Rattle.cascade.proofs.Sums.{same_terms}
use Rattle.cascade.proofs.GoingOn.{goes_on}
use Rattle.cascade.proofs.MoreCash.{pays_where_clearing}
use Rattle.stress.specs.Breaking.{breaking, breaking_within, health_after, joined, noted}
use Rattle.stress.specs.Milder.{IsSoundAfter, breaking_cut, cut_alone, left_by}
use Rattle.stress.specs.Shocks.{shocked_from}
use Rattle.stress.specs.declared.TheConstants.{MAX_CUT}
use Rattle.stress.specs.declared.broken.Broken.{Broken}
use Rattle.stress.proofs.Kept.{length-shocked_from}
use Rattle.stress.proofs.Milder.{breaking_cut_is, milder_leaves_more, sound_below}

-- all cuts from `last` up to below `high` are tried: the payments of the last are there, or none
-- where no cut is tried, and what these cuts tell of each bank
pub record IsDown (net : Net) (high last : ℕ) (paid : List ℕ) (all : List Broken) : Type 0 where
  pub none_paid : high ≤ last → paid ≡ zeros net
  pub least_paid : last < high → paid ≡ least (left_by net last)
  pub noted : all ≡ map (breaking_within last high net) (bank_numbers net)

module _ (net : Net) (c d : ℕ) (smaller : c ≤ d) where
  -- the payments after a cut are on the way to those after a smaller one
  way_down : IsOnWayBy (left_by net c) (spend (left_by net c)) (least (left_by net d))
  way_down =
      let more = milder_leaves_more net (cut_alone c) (cut_alone d)
      (record { cut = smaller; losses = λ i. omega arith }) in
      (goes_on (left_by net d) (left_by net c) more).way

  -- and a bank that is sound after it has paid all, and pays no more after the smaller
  sound_is_quiet : IsNetwork net → (i : ℕ) → IsSoundAfter net i d
      → IsQuietBy (left_by net c) (spend (left_by net c)) (least (left_by net d)) i
  sound_is_quiet network i sound x l owed =
      let harder = left_by net d in
      let P = least harder in
      let clears = least_clears harder in
      let pays = pays_where_clearing net network (shocked_from d [] 0 net.banks) P clears i in
      let enough = sound_enough harder P i pays sound in
      let all : sum_by (claim_of net) (row net i) ≤ paid_by net P i =
      omega (arith, pays, enough, sum-map (claim_of net) (row net i)) in
      let stands = debt_of_bank net i x l owed in
      let full : get_or P x 0 ≡ claim_of net x =
      subst (λ y. get_or P y 0 ≡ claim_of net y) stands.at
      (same_terms (λ y. get_or P y 0) (claim_of net) (row net i) (clearing_within harder P clears) all
      (place_in_row net x) stands.within) in
      omega (
        arith,
        full,
        way_down.rises x,
        pay_by_within (left_by net c) (spend (left_by net c)) P x,
      )

-- what the cuts from `low` up to below `high` tell of a bank that stands so after each, and whose
-- least cut is b
abbrev told : (ℕ → Health) → ℕ → ℕ → ℕ → Broken
told h b low high =
    let cut = max low (min high b) in
    record { cut = cut; health = cond (nat_lt cut high) (h cut) Sound }

-- what is told, by the cut that it comes to
told_at : (h : ℕ → Health) (b low high cut : ℕ) → max low (min high b) ≡ cut
    → told h b low high ≡ record { cut = cut; health = cond (nat_lt cut high) (h cut) Sound }
told_at h b low high cut is =
    ap (λ k. record { cut = k; health = cond (nat_lt k high) (h k) Sound }) is

-- where that is below all cuts, the bank stands there as it is told
told_below : (h : ℕ → Health) (b low high cut : ℕ) → max low (min high b) ≡ cut → cut < high
    → told h b low high ≡ record { cut = cut; health = h cut }
told_below h b low high cut is l =
    told_at h b low high cut is
    ∙ ap (λ (t : Bool). record { cut = cut; health = cond t (h cut) Sound }) (lt-ltb cut high l)

-- what two shares of the cuts tell, by whether the first comes to its last cut
told_by_test : (h : ℕ → Health) (b low middle high : ℕ) → low ≤ middle → middle ≤ high
    → (t : Bool) → ((told h b low middle).cut == middle) ≡ t
    → cond t (told h b middle high) (told h b low middle) ≡ told h b low high
told_by_test h b low middle high l m true e =
    let at : max low (min middle b) ≡ middle = eqb-true (max low (min middle b)) middle e in
    told_at h b middle high (max low (min high b)) (omega (arith, at, l, m))
told_by_test h b low middle high l m false e =
    let not_at = eqb-false (max low (min middle b)) middle e in
    let cut = max low (min high b) in
    told_below h b low middle cut (omega (arith, not_at, l, m)) (omega (arith, not_at, l, m))
    ∙ sym (told_below h b low high cut refl (omega (arith, not_at, l, m)))

-- and what they tell is what all of them tell
told_by_shares : (h : ℕ → Health) (b low middle high : ℕ) → low ≤ middle → middle ≤ high
    → cond ((told h b low middle).cut == middle) (told h b middle high) (told h b low middle)
    ≡ told h b low high
told_by_shares h b low middle high l m =
    told_by_test h b low middle high l m ((told h b low middle).cut == middle) refl

-- one cut more tells what all cuts from it on tell
told_more : (h : ℕ → Health) (b high c : ℕ) → c < high → (h c ≡ Sound) ↔ (c < b)
    → cond (((told h b (c + 1) high).cut == c + 1) && not (is_sound (h c)))
    (record { cut = c; health = h c }) (told h b (c + 1) high)
    ≡ told h b c high
told_more h b high c l below = grind (arith, nat_tests, sound_told (h c))

-- no cut tells nothing
told_by_none : (h : ℕ → Health) (b high : ℕ) → record { cut = high; health = Sound } ≡ told h b high high
told_by_none h b high = grind (arith, nat_tests)

-- the cuts below the one after the greatest are those up to the greatest
told_by_all_cuts : (h : ℕ → Health) (b : ℕ) → b ≤ MAX_CUT + 1 → told h b 0 (MAX_CUT + 1)
    ≡ record { cut = b; health = cond (nat_le b MAX_CUT) (h b) Sound }
told_by_all_cuts h b l = grind (arith, nat_tests)

module _ (net : Net) (network : IsNetwork net) (high c : ℕ) (in_range : c < high)
    (in_limit : high ≤ MAX_CUT + 1) where
  -- one cut more tells what all cuts from it on tell
  one_cut_more : (i : ℕ)
      → noted (left_by net c) (least (left_by net c)) c i (breaking_within (c + 1) high net i)
      ≡ breaking_within c high net i
  one_cut_more i = told_more (health_after net i) (breaking_cut net i) high c in_range
      (sound_below net i c network (omega arith))

  module _ (last : ℕ) (paid : List ℕ) (all : List Broken) (next : c + 1 ≡ last)
      (before : IsDown net high last paid all) where
    -- all cuts above this one were tried
    down : IsDown net high (c + 1) paid all
    down = rw next before

    -- there is one for each bank
    pub as_many_known : length all ≡ length net.banks
    as_many_known =
        ap length down.noted
        ∙ length-map-range_with_len (breaking_within (c + 1) high net) 0 (length net.banks)

    -- what is known of the bank i
    known_at : (i : ℕ) (none : Broken) → i < length net.banks
        → get_or all i none ≡ breaking_within (c + 1) high net i
    known_at i none l =
        ap (λ (xs : List Broken). get_or xs i none) down.noted
        ∙ get_or-map-range_with_len (breaking_within (c + 1) high net) 0 (length net.banks) i i none l (omega arith)

    -- the payments so far are on the way to those after the next cut
    on_way : IsOnWayBy (left_by net c) (spend (left_by net c)) paid
    on_way = ⊎_elim
        (λ (l : c + 1 < high).
        subst (IsOnWayBy (left_by net c) (spend (left_by net c))) (sym (down.least_paid l))
        (way_down net c (c + 1) (omega arith)))
        (λ (g : high ≤ c + 1). begins_by (left_by net c) (spend (left_by net c)) paid (down.none_paid g))
        (cases_lt (c + 1) high)

    -- and a bank that the last cut did not break pays no more
    unbroken_is_quiet : (i : ℕ) → i < length net.banks
        → ((breaking_within (c + 1) high net i).cut == c + 1) ≡ false
        → IsQuietBy (left_by net c) (spend (left_by net c)) paid i
    unbroken_is_quiet i l e =
        let b = breaking_cut net i in
        let other = eqb-false (max (c + 1) (min high b)) (c + 1) e in
        let above : (c + 1 < high) × (c + 1 < b) = (omega arith, omega arith) in
        let sound = (sound_below net i (c + 1) network (omega arith)).1 above.1 in
        subst (λ P. IsQuietBy (left_by net c) (spend (left_by net c)) P i)
        (sym (down.least_paid above.0))
        (sound_is_quiet net c (c + 1) (omega arith) network i sound)

    -- so only the banks that it broke need to pay anew
    pub swept_down : (marks : List Bool) → marks ≡ map (λ r. r.cut == c + 1) all
        → IsSwept (left_by net c) (spend (left_by net c)) paid marks
    swept_down marks are = record {
      never = spend_mono (left_by net c);
      way = on_way;
      for_each_bank = ap length are ∙ length-map all (λ (r : Broken). r.cut == c + 1)
          ∙ as_many_known ∙ sym (length-shocked_from c 0 [] net.banks);
      unmarked = λ i l e.
          let none : Broken = record { cut = 0; health = Sound } in
          let in_net : i < length net.banks = omega (arith, length-shocked_from c 0 [] net.banks) in
          unbroken_is_quiet i in_net
          (ap (λ (r : Broken). r.cut == c + 1) (sym (known_at i none in_net))
          ∙ sym (get_or-map (λ (r : Broken). r.cut == c + 1) all i none false
          (omega (arith, as_many_known)))
          ∙ ap (λ (ms : List Bool). is_marked ms i) (sym are)
          ∙ e);
    }

    -- and once they have, and are looked at, one cut more is tried
    pub one_down : (now : ℕ) (Q : List ℕ) (more : List Broken) → c ≡ now → Q ≡ least (left_by net c)
        → length more ≡ length all
        → ((i : ℕ) (none : Broken) → i < length all
        → get_or more i none ≡ noted (left_by net c) Q c i (get_or all i none))
        → IsDown net high now Q more
    one_down now Q more same paid_now over each = rw (← same) (record {
      none_paid = λ g. absurd (omega arith);
      least_paid = λ l. paid_now;
      noted =
          let none : Broken = record { cut = 0; health = Sound } in
          fill_by_all (breaking_within c high net) more (length net.banks) none
          (over ∙ as_many_known) (λ i l.
          each i none (omega (arith, as_many_known))
          ∙ ap (λ P. noted (left_by net c) P c i (get_or all i none)) paid_now
          ∙ ap (noted (left_by net c) (least (left_by net c)) c i) (known_at i none l)
          ∙ one_cut_more i);
    })

-- before any cut is tried nothing is paid, and no bank is broken
pub none_tried : (net : Net) (high : ℕ) (paid : List ℕ) (all : List Broken) → paid ≡ zeros net
    → all ≡ replicate (length net.banks) (record { cut = high; health = Sound })
    → IsDown net high high paid all
none_tried net high paid all p a =
    let none : Broken = record { cut = high; health = Sound } in
    record {
      none_paid = λ g. p;
      least_paid = λ l. absurd (omega arith);
      noted = a ∙ fill_by_all (breaking_within high high net) (replicate (length net.banks) none)
          (length net.banks) none (length-replicate (length net.banks) none) (λ i l.
          get_or-replicate (length net.banks) i none none l
          ∙ told_by_none (health_after net i) (breaking_cut net i) high);
    }

-- all cuts tell what breaks each bank, where there is memory
pub told_by_all : {E : Type 0} (net : Net) (r : Result (Vec Broken Global) E)
    → IfOk r (λ all. all.items ≡ map (breaking_within 0 (MAX_CUT + 1) net) (bank_numbers net))
    → IfOk r (λ all. all.items ≡ map (breaking net) (bank_numbers net))
told_by_all net r h =
    let same : map (breaking_within 0 (MAX_CUT + 1) net) (bank_numbers net)
    ≡ map (breaking net) (bank_numbers net) =
    λ at. map (λ i. told_by_all_cuts (health_after net i) (breaking_cut net i)
    (breaking_cut_is net i).within at) (bank_numbers net) in
    IfOk-weaker r _ _ (λ all e. e ∙ same) h

-- what two shares of the cuts tell of all banks is what all of them tell
pub shares_join : (net : Net) (low middle high : ℕ) (banks : List ℕ) → low ≤ middle → middle ≤ high
    → joined middle (map (breaking_within low middle net) banks)
    (map (breaking_within middle high net) banks)
    ≡ map (breaking_within low high net) banks
shares_join net low middle high [] l m = refl
shares_join net low middle high (i ∷ banks) l m =
    let first = told_by_shares (health_after net i) (breaking_cut net i) low middle high l m in
    λ at. first at ∷ shares_join net low middle high banks l m at
