-- The awards at a level, with units of the next level for the earliest claims that get one there, are given in turn.
use Rattle.std.proofs.Common.{◌≡◌, ℕ, zero, suc, ◌+◌, ◌-◌, ◌⊎◌, ◌<◌, ◌≤◌, true, false, inl, inr, List, [], ◌∷◌, length, get_or, map, min, sum, take, sym, ap, ◌∙◌, arith, ⊎_elim}
use Rattle.std.proofs.lemmas.Bool.{cases_lt, true≢false, false_from_ne_true}
use Rattle.std.proofs.lemmas.List.{length-map}
use Rattle.rule_unit.specs.declared.TheConstants.{MAX_CLAIM}
use Rattle.clr_net.specs.declared.rule.RuleKind.{RuleKind}
use Rattle.clr_net.specs.Division.{goes_before, award}
use Rattle.rule_unit.specs.Awards.{IsWithin}
use Rattle.clr_net.proofs.Lists.{sum-cons}
use Rattle.clr_net.proofs.Classes.{length-place_sums, get_or-place_sums, sum-place_sums}
use Rattle.clr_net.proofs.Order.{goes_before_never, goes_before_through}
use Rattle.rule_class.specs.ByOrder.{fill}
use Rattle.rule_class.proofs.OrderFill.{length-fill, get_or-fill}
use Rattle.rule_level.specs.InTurn.{IsInTurn}
use Rattle.rule_level.specs.Levels.{at_level, level_awards, step_at, awards_above}
use Rattle.rule_level.proofs.InTurn.{goes_before_later, award_in_turn}
use Rattle.rule_level.proofs.Levels.{is_level, last_before_next, level_awards_at}
use Rattle.rule_level.proofs.Steps.{level_rises, steps_at, sum_next_level}
use Rattle.rule_level.proofs.Ties.{next_level_tied}

-- all units are filled in, as far as there is room
sum-fill : (rooms : List ℕ) (e : ℕ) → sum (fill rooms e) ≡ min e (sum rooms)
sum-fill [] e = omega arith
sum-fill (x ∷ rooms) e = omega (arith, sum-cons (min x e) (fill rooms (e - x)), sum-cons x rooms, sum-fill rooms (e - x))

-- the elements before a place come to no less with one of an earlier place
sum_before : (xs : List ℕ) (j i : ℕ) → j < i → sum (take j xs) + get_or xs j 0 ≤ sum (take i xs)
sum_before xs j zero l = absurd (omega arith)
sum_before [] zero (suc i) l = omega arith
sum_before [] (suc j) (suc i) l = omega arith
sum_before (x ∷ xs) zero (suc i) l = omega (arith, sum-cons x (take i xs))
sum_before (x ∷ xs) (suc j) (suc i) l =
    omega (arith, sum-cons x (take j xs), sum-cons x (take i xs), sum_before xs j i (omega arith))

-- of two units one at most goes before the other
never_back : (rule : RuleKind) (c k d m : ℕ) → goes_before rule c k d m ≡ true → goes_before rule d m c k ≡ false
never_back rule c k d m h = false_from_ne_true (goes_before rule d m c k)
    (λ e. true≢false (sym (goes_before_through rule c k d m c k h e) ∙ goes_before_never rule c k))

-- a claim c that has got a units, the last of them at the level t or below, and a claim d that has got all of that level
given_before_left : (rule : RuleKind) (t c a d b : ℕ) → 0 < a → a ≡ at_level rule t c → at_level rule t d ≤ b → b < d
    → goes_before rule c (a - 1) d b ≡ true
given_before_left rule t c a d b some e all l =
    goes_before_later rule c (a - 1) d (at_level rule t d) b all
    (ap (λ x. goes_before rule c (x - 1) d (at_level rule t d)) e ∙ last_before_next rule t c d (omega (arith, e)) (omega arith))

module _ (rule : RuleKind) (t m : ℕ) (claims : List ℕ) (limit : (k : ℕ) → get_or claims k 0 ≤ MAX_CLAIM) where
  -- the awards at the level, with m units of the next
  abbrev above : List ℕ
  above = awards_above rule t m claims

  -- what a place gets at the level
  abbrev low : ℕ → ℕ
  low k = at_level rule t (get_or claims k 0)

  -- and at the next
  abbrev high : ℕ → ℕ
  high k = at_level rule (t + 1) (get_or claims k 0)

  -- how many units the steps of the places before k take
  abbrev taken : ℕ → ℕ
  taken k = sum (take k (map (step_at rule t) claims))

  -- there are as many steps as awards
  same_length : length (level_awards rule t claims) ≡ length (fill (map (step_at rule t) claims) m)
  same_length = omega (
    arith,
    length-map claims (at_level rule t),
    length-map claims (step_at rule t),
    length-fill (map (step_at rule t) claims) m,
  )

  -- a place has what it gets at the level, and of the next what is left for it
  pub above_at : (k : ℕ) → get_or above k 0 ≡ low k + min (high k - low k) (m - taken k)
  above_at k = omega (
    arith,
    get_or-place_sums (level_awards rule t claims) (fill (map (step_at rule t) claims) m) k same_length,
    level_awards_at rule t claims k,
    get_or-fill (map (step_at rule t) claims) m k,
    steps_at rule t claims k,
  )

  -- no place has more than its claim
  above_within : IsWithin claims above
  above_within = record {
    as_many = length-place_sums (level_awards rule t claims) (fill (map (step_at rule t) claims) m) ∙ length-map claims (at_level rule t);
    within = λ k. omega (arith, above_at k, level_rises rule t (get_or claims k 0), (is_level rule (t + 1) (get_or claims k 0)).within);
  }

  -- the last unit that the place i has got goes before the next one of the place j, or they tie and j is not the earlier
  abbrev IsBefore : ℕ → ℕ → Type 0
  IsBefore i j = goes_before rule (get_or claims i 0) (get_or above i 0 - 1) (get_or claims j 0) (get_or above j 0) ≡ true

  -- two units that tie, the later of which was not given first
  abbrev IsTied : ℕ → ℕ → Type 0
  IsTied i j =
      (goes_before rule (get_or claims j 0) (get_or above j 0) (get_or claims i 0) (get_or above i 0 - 1) ≡ false) × (i ≤ j)

  -- of two such places the one goes before the other or ties with it
  given_or_tied : (i j : ℕ) → 0 < get_or above i 0 → get_or above j 0 < get_or claims j 0 → IsBefore i j ⊎ IsTied i j
  given_or_tied i j s l =
      let ci = get_or claims i 0 in
      let cj = get_or claims j 0 in
      let ai = get_or above i 0 in
      let aj = get_or above j 0 in
      let at_i = above_at i in
      let at_j = above_at j in
      let more_i = (is_level rule t ci).more (limit i) in
      let more_j = (is_level rule t cj).more (limit j) in
      let rises_i = level_rises rule t ci in
      let rises_j = level_rises rule t cj in
      ⊎_elim
      (λ (stepped : low i < ai).
      ⊎_elim
      (λ (left : aj < high j).
      let level_i : ai - 1 ≡ low i = omega (arith, at_i, more_i, stepped) in
      let level_j : aj ≡ low j = omega (arith, at_j, more_j, left) in
      inr (
        (ap (λ x. goes_before rule cj x ci (ai - 1)) level_j ∙ ap (λ x. goes_before rule cj (low j) ci x) level_i
            ∙ next_level_tied rule t cj ci (limit j) (limit i) (omega (arith, level_j, left)) (omega (arith, at_i, stepped))),
        ⊎_elim
            (λ (b : j < i). absurd (omega
            (arith, at_i, at_j, stepped, left, sum_before (map (step_at rule t) claims) j i b, steps_at rule t claims j)))
            (λ (g : i ≤ j). g)
            (cases_lt j i),
      ))
      (λ (all : high j ≤ aj).
      inl (given_before_left rule (t + 1) ci ai cj aj s (omega (arith, at_i, more_i, stepped)) all l))
      (cases_lt aj (high j)))
      (λ (not : ai ≤ low i). inl (given_before_left rule t ci ai cj aj s (omega (arith, at_i)) (omega (arith, at_j)) l))
      (cases_lt (low i) ai)

  -- so these awards are given in turn
  above_in_turn : IsInTurn rule claims above
  above_in_turn = record {
    none_before = λ i j s l. ⊎_elim
        (λ (h : IsBefore i j).
        never_back rule (get_or claims i 0) (get_or above i 0 - 1) (get_or claims j 0) (get_or above j 0) h)
        (λ (h : IsTied i j). h.0)
        (given_or_tied i j s l);
    earlier_at_tie = λ i j b s l. ⊎_elim
        (λ (h : IsBefore i j). h)
        (λ (h : IsTied i j). absurd (omega (arith, h.1, b)))
        (given_or_tied i j s l);
  }

  -- they come to the awards at the level and m more
  sum_above : m ≤ sum (map (step_at rule t) claims) → sum above ≡ sum (level_awards rule t claims) + m
  sum_above l = omega (
    arith,
    sum-place_sums (level_awards rule t claims) (fill (map (step_at rule t) claims) m) same_length,
    sum-fill (map (step_at rule t) claims) m,
    l,
  )

  -- they are the award of their sum
  pub above_is_award : m ≤ sum (map (step_at rule t) claims) → above ≡ award rule claims (sum (level_awards rule t claims) + m)
  above_is_award l = award_in_turn rule claims above above_within above_in_turn ∙ ap (award rule claims) (sum_above l)

-- units that end between a level and the next
pub award_by_level : (rule : RuleKind) (t units : ℕ) (claims : List ℕ) → ((k : ℕ) → get_or claims k 0 ≤ MAX_CLAIM)
    → sum (level_awards rule t claims) ≤ units → units ≤ sum (level_awards rule (t + 1) claims)
    → awards_above rule t (units - sum (level_awards rule t claims)) claims ≡ award rule claims units
award_by_level rule t units claims limit low high =
    above_is_award rule t (units - sum (level_awards rule t claims)) claims limit (omega (arith, sum_next_level rule t claims))
    ∙ ap (award rule claims) (omega arith)
