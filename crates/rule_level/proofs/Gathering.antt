-- The claims of one class, gathered one after another; and what a level gives to them.
use Rattle.std.proofs.Common.{◌≡◌, ℕ, ◌+◌, ◌<◌, ◌≤◌, ◌++◌, All, List, [], ◌∷◌, length, get_or, map, set, sum, take, refl, ap, ◌∙◌, arith}
use Rattle.std.proofs.lemmas.Grind.{common_steps}
use Rattle.std.proofs.lemmas.List.{get_or-take, length-take-le, map-append, take_all, take_more, take_more_set}
use Rattle.std.proofs.lemmas.List.Elements.{All-from_get_or}
use Rattle.std.proofs.lemmas.List.Sums.{sum_by-append, sum-map}
use Rattle.clr_net.specs.Division.{class_claims}
use Rattle.clr_net.proofs.Classes.{class_claims_here, class_claims_other, length-class_claims}
use Rattle.rule_level.specs.Gathered.{AddUpAlike}
use Rattle.rule_unit.specs.declared.TheConstants.{MAX_CLAIM}

-- one more at the end
sum_pushed : (f : ℕ → ℕ) (xs : List ℕ) (y : ℕ) → sum (map f (xs ++ y ∷ [])) ≡ sum (map f xs) + f y
sum_pushed f xs y =
    omega (arith, ap sum (map-append f xs (y ∷ [])), sum_by-append (λ (n : ℕ). n) (map f xs) (f y ∷ []))

-- the first places of a list, of which the claims of the first debts of a class are gathered
pub record IsGathered (claims classes : List ℕ) (c : ℕ) (had now : List ℕ) (debt many : ℕ) : Type 0 where
  pub as_many : length now ≡ length had
  pub places : many ≤ debt
  pub limit : (k : ℕ) → k < many → get_or now k 0 ≤ MAX_CLAIM
  pub alike : AddUpAlike (take many now) (take debt (class_claims c claims classes))

module _ (claims classes : List ℕ) (c : ℕ) (had now : List ℕ) (debt many : ℕ)
    (l : debt < length claims) (gathered : IsGathered claims classes c had now debt many) where
  -- what a debt more adds up to
  with_debt : (f : ℕ → ℕ)
      → sum (map f (take (debt + 1) (class_claims c claims classes)))
      ≡ sum (map f (take debt (class_claims c claims classes))) + f (get_or (class_claims c claims classes) debt 0)
  with_debt f =
      let mine = class_claims c claims classes in
      ap (λ xs. sum (map f xs)) (take_more mine debt 0 (omega (arith, length-class_claims c claims classes)))
      ∙ sum_pushed f (take debt mine) (get_or mine debt 0)

  -- a debt of the class
  pub gathered_more : 0 < c → get_or classes debt 0 ≡ c → length had ≡ length claims
      → get_or claims debt 0 ≤ MAX_CLAIM
      → IsGathered claims classes c had (set now many (get_or claims debt 0)) (debt + 1) (many + 1)
  gathered_more positive same over within =
      let claim = get_or claims debt 0 in
      let room : many < length now = omega (arith, gathered.as_many, gathered.places) in
      record {
        as_many = grind (arith, common_steps, gathered.as_many);
        places = omega (arith, gathered.places);
        limit = λ k m. grind (arith, common_steps, gathered.limit k, room, within);
        alike = λ f zero. omega (
          arith,
          ap (λ xs. sum (map f xs)) (take_more_set now many claim room),
          sum_pushed f (take many now) claim,
          gathered.alike f zero,
          with_debt f,
          ap f (class_claims_here c claims classes debt positive same),
        );
      }

  -- a debt of another class
  pub gathered_same : (get_or classes debt 0 ≡ c → ⊥) → IsGathered claims classes c had now (debt + 1) many
  gathered_same other = record {
    as_many = gathered.as_many;
    places = omega (arith, gathered.places);
    limit = gathered.limit;
    alike = λ f zero. omega (
      arith,
      gathered.alike f zero,
      with_debt f,
      ap f (class_claims_other c claims classes debt other),
      zero,
    );
  }

-- where all debts were gone over the claims of the class are gathered, each within the limit
module _ (claims classes : List ℕ) (c : ℕ) (had now : List ℕ) (debt many : ℕ)
    (gathered : IsGathered claims classes c had now debt many) where
  -- what is gathered then adds up as the claims of the class do
  pub gathered_all : length claims ≤ debt → AddUpAlike (take many now) (class_claims c claims classes)
  gathered_all past f zero =
      let mine = class_claims c claims classes in
      gathered.alike f zero
      ∙ ap (λ xs. sum (map f xs)) (take_all debt mine (omega (arith, length-class_claims c claims classes)))

  -- each claim that is gathered is within the limit
  pub gathered_within : many ≤ length now → All (λ claim. claim ≤ MAX_CLAIM) (take many now)
  gathered_within l = All-from_get_or (λ claim. claim ≤ MAX_CLAIM) (take many now) 0 (λ k m.
      let here : k < many = omega (arith, length-take-le many now l) in
      omega (arith, get_or-take many now k 0 here, gathered.limit k here))

-- lists that add up alike have the same sum
pub same_total : (xs ys : List ℕ) → AddUpAlike xs ys → sum xs ≡ sum ys
same_total xs ys alike =
    omega (arith, alike (λ n. n) refl, sum-map (λ (n : ℕ). n) xs, sum-map (λ (n : ℕ). n) ys)
