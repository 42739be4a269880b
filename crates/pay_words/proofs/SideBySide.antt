-- Where the words of debts stand: each debt has a place of its own, and those to one bank stand side by side.
use Rattle.std.proofs.Common.{◌≡◌, ℕ, ◌+◌, ◌<◌, ◌≤◌, ◌==◌, nat_lt, Bool, cond, List, [], ◌∷◌, length, get_or, count_by, refl, sym, subst, ap, ◌∙◌, arith, eqb-true, eq-eqb, length-set, get_or-set_same, get_or-set_other, set}
use Rattle.std.specs.List.{range_with_len}
use Rattle.std.proofs.lemmas.Bool.Decides.{nat_tests}
use Rattle.std.proofs.lemmas.List.FromFn.{length-range_with_len}
use Rattle.std.proofs.lemmas.List.Sums.{count_by-le-length, length-filter, sum_by-cons, sum_by-le-sum_by, sum_by_push}
use Rattle.std.proofs.lemmas.List.{ext_get_or}
use Rattle.clr_net.specs.Net.{Net, column, creditor_of, debt_numbers}
use Rattle.clr_net.proofs.Filters.{number_in_place, place_that_holds}
use Rattle.clr_net.proofs.RangeFilters.{range_push}
use Rattle.pay_words.specs.Tables.{tabled}
use Rattle.pay_words.proofs.Tables.{length-tabled, tabled_at}
use Rattle.pay_words.specs.Positions.{ArePositions, Positions, first_position, owed_among, position_of}
use Rattle.std.specs.Prelude.{slice_index}
use native.Mathlib.Decide.{ℕ_discrete}
use mathlib.Core.Logic.{dite}

module _ (net : Net) where
  -- how many debts there are
  abbrev n : ℕ
  n = length net.debts

  -- a debt is owed to its bank beside all that were owed to it before
  one_more : (x m : ℕ) → x < m → owed_among net (creditor_of net x) x + 1 ≤ owed_among net (creditor_of net x) m
  one_more x m lt =
      let b = creditor_of net x in
      let test : ℕ → Bool = λ y. creditor_of net y == b in
      let f = place_that_holds test 0 m x x (omega arith) lt (eq-eqb b b refl) in
      omega (arith, f.1.within, f.1.counted, length-filter test (range_with_len 0 m))

  -- the numbers of a list that are below b, and those that are b, are those that are below the next number
  next_of : (f : ℕ → ℕ) (b : ℕ) (xs : List ℕ)
      → count_by (λ x. nat_lt (f x) b) xs + count_by (λ x. f x == b) xs ≡ count_by (λ x. nat_lt (f x) (b + 1)) xs
  next_of f b [] = refl
  next_of f b (x ∷ xs) =
      let here : cond {A = ℕ} (nat_lt (f x) b) 1 0 + cond (f x == b) 1 0 ≡ cond (nat_lt (f x) (b + 1)) 1 0 = grind (arith, nat_tests) in
      omega (
        arith,
        here,
        next_of f b xs,
        sum_by-cons (λ y. cond {A = ℕ} (nat_lt (f y) b) 1 0) x xs,
        sum_by-cons (λ y. cond {A = ℕ} (f y == b) 1 0) x xs,
        sum_by-cons (λ y. cond {A = ℕ} (nat_lt (f y) (b + 1)) 1 0) x xs,
      )

  -- the debts to the next bank begin where those to a bank end
  pub first_next : (b : ℕ) → first_position net b + owed_among net b n ≡ first_position net (b + 1)
  first_next b = next_of (creditor_of net) b (debt_numbers net)

  -- those to a later bank begin no earlier
  first_later : (b c : ℕ) → b ≤ c → first_position net b ≤ first_position net c
  first_later b c le = sum_by-le-sum_by (λ x. cond {A = ℕ} (nat_lt (creditor_of net x) b) 1 0) (λ x. cond {A = ℕ} (nat_lt (creditor_of net x) c) 1 0)
      (debt_numbers net) (λ x. grind (arith, nat_tests, le))

  -- and none begins behind the last debt
  pub first_low : (b : ℕ) → first_position net b ≤ n
  first_low b = omega (arith, count_by-le-length (λ x. nat_lt (creditor_of net x) b) (debt_numbers net), length-range_with_len 0 n)

  -- what the position of a debt is made of
  position_is : (x : ℕ) → position_of net x ≡ first_position net (creditor_of net x) + owed_among net (creditor_of net x) x
  unfolding position_of
  position_is x = refl

  -- a debt stands before all debts to later banks
  before_next : (x : ℕ) → x < n → position_of net x < first_position net (creditor_of net x + 1)
  before_next x lt = omega (arith, position_is x, one_more x n lt, first_next (creditor_of net x))

  -- each debt stands among the words of debts
  pub within : (x : ℕ) → x < n → position_of net x < n
  within x lt = omega (arith, before_next x lt, first_low (creditor_of net x + 1))

  -- debts to different banks stand in different places
  by_bank : (x y : ℕ) → x < n → creditor_of net x < creditor_of net y → position_of net x < position_of net y
  by_bank x y lt less = omega (arith, position_is y, before_next x lt, first_later (creditor_of net x + 1) (creditor_of net y) (omega (arith, less)))

  -- and so do those to one
  by_number : (x y : ℕ) → x < y → creditor_of net x ≡ creditor_of net y → position_of net x < position_of net y
  by_number x y lt same =
      let more = one_more x y lt in
      let at = ap (λ b. first_position net b) same in
      let here = ap (λ b. owed_among net b y) same in
      omega (arith, position_is x, position_is y, more, at, here)

  -- one place has one debt
  pub one_place : (x y : ℕ) → x < n → y < n → position_of net x ≡ position_of net y → x ≡ y
  one_place x y lx ly e = grind (
    arith,
    by_bank x y lx,
    by_bank y x ly,
    by_number x y,
    by_number y x,
    e,
  )

  -- the debts to a bank stand side by side, in file order
  pub side_by_side : (b k : ℕ) → k < length (column net b) → position_of net (get_or (column net b) k 0) ≡ first_position net b + k
  side_by_side b k lt =
      let test : ℕ → Bool = λ y. creditor_of net y == b in
      let f = number_in_place test 0 n k lt in
      let x = f.1 in
      let to_b : creditor_of net x ≡ b = eqb-true (creditor_of net x) b f.2.passes in
      let from : x ≡ f.0 = omega (arith, f.2.placed) in
      let before : owed_among net b x ≡ k = ap (λ m. owed_among net b m) from ∙ f.2.counted in
      ap (position_of net) f.2.at ∙ position_is x ∙ (λ i. first_position net (to_b i) + owed_among net (to_b i) x)
      ∙ ap (λ c. first_position net b + c) before

  -- before the first bank no debt stands
  none_below : (f : ℕ → ℕ) (xs : List ℕ) → count_by (λ x. nat_lt (f x) 0) xs ≡ 0
  none_below f [] = refl
  none_below f (x ∷ xs) =
      let here : cond {A = ℕ} (nat_lt (f x) 0) 1 0 ≡ 0 = grind (arith, nat_tests) in
      omega (arith, here, none_below f xs, sum_by-cons (λ y. cond {A = ℕ} (nat_lt (f y) 0) 1 0) x xs)

  -- so the debts to the first bank begin at 0
  pub first_zero : first_position net 0 ≡ 0
  first_zero = none_below (creditor_of net) (debt_numbers net)

  -- those to the next bank begin behind the column of a bank
  pub first_behind : (b : ℕ) → first_position net b + length (column net b) ≡ first_position net (b + 1)
  first_behind b = omega (arith, first_next b, length-filter (λ x. creditor_of net x == b) (debt_numbers net))

  -- where the next debt to each bank stands, when m debts have their positions
  abbrev pub next_position : ℕ → ℕ → ℕ
  next_position m b = first_position net b + owed_among net b m

  -- that is where the debt m stands, of its creditor
  pub next_is : (m : ℕ) → next_position m (creditor_of net m) ≡ position_of net m
  next_is m = sym (position_is m)

  -- a debt more to a bank
  owed_more : (b m : ℕ) → owed_among net b (m + 1) ≡ owed_among net b m + cond (creditor_of net m == b) 1 0
  owed_more b m =
      ap (count_by (λ x. creditor_of net x == b)) (range_push 0 m m (omega arith))
      ∙ sum_by_push (λ x. cond {A = ℕ} (creditor_of net x == b) 1 0) (range_with_len 0 m) m

  -- the debt m takes the next position of its creditor, and no other bank's
  pub next_more : (banks m : ℕ) → creditor_of net m < banks
      → set (tabled banks (next_position m)) (creditor_of net m) (position_of net m + 1) ≡ tabled banks (next_position (m + 1))
  next_more banks m lt =
      let c = creditor_of net m in
      let old = tabled banks (next_position m) in
      ext_get_or 0 (set old c (position_of net m + 1)) (tabled banks (next_position (m + 1)))
      (length-set old c (position_of net m + 1) ∙ length-tabled banks (next_position m) ∙ sym (length-tabled banks (next_position (m + 1))))
      (λ b l.
      let low : b < banks = omega (arith, l, length-set old c (position_of net m + 1), length-tabled banks (next_position m)) in
      dite (ℕ_discrete b c)
      (λ e.
      let here : get_or (set old c (position_of net m + 1)) c 0 ≡ position_of net m + 1 = get_or-set_same old c (position_of net m + 1) 0 (omega (arith, lt, length-tabled banks (next_position m))) in
      let more = owed_more c m in
      let one : cond {A = ℕ} (c == c) 1 0 ≡ 1 = grind (arith, nat_tests) in
      rw e (here ∙ sym (tabled_at banks (next_position (m + 1)) c 0 lt ∙ omega (arith, more, one, position_is m))))
      (λ ne.
      let more = owed_more b m in
      let none : cond {A = ℕ} (c == b) 1 0 ≡ 0 = grind (arith, nat_tests, ne) in
      get_or-set_other old c b (position_of net m + 1) 0 ne ∙ tabled_at banks (next_position m) b 0 low
      ∙ sym (tabled_at banks (next_position (m + 1)) b 0 low ∙ omega (arith, more, none))))

-- what a board has in memory of a debt is its position on the board's network
pub debt_listed : (own net : Net) (p : Positions) (x : ℕ) → own ≡ net → ArePositions own p → x < length net.debts
    → (x < length p.of_debts) × (slice_index p.of_debts x ≡ position_of net x)
debt_listed own net p x same h lt =
    let all : p.of_debts ≡ tabled (length net.debts) (position_of net) = (subst (λ (n : Net). ArePositions n p) same h).of_debts in (
      omega (arith, lt, ap length all, length-tabled (length net.debts) (position_of net)),
      ap (λ (l : List ℕ). slice_index l x) all ∙ tabled_at (length net.debts) (position_of net) x 0 lt,
    )

-- and of a bank where the debts to it begin
pub first_listed : (own net : Net) (p : Positions) (b : ℕ) → own ≡ net → ArePositions own p → b < length net.banks
    → (b < length p.firsts) × (slice_index p.firsts b ≡ first_position net b)
first_listed own net p b same h lt =
    let all : p.firsts ≡ tabled (length net.banks) (first_position net) = (subst (λ (n : Net). ArePositions n p) same h).firsts in (
      omega (arith, lt, ap length all, length-tabled (length net.banks) (first_position net)),
      ap (λ (l : List ℕ). slice_index l b) all ∙ tabled_at (length net.banks) (first_position net) b 0 lt,
    )
