-- A network with lower claims is a network.
use Rattle.std.proofs.Common.{◌≡◌, ℕ, zero, suc, ◌≤◌, List, [], ◌∷◌, length, map, get_or, slice_get, sum, Some, refl, sym, ap, ◌∙◌, arith}
use Rattle.std.specs.Option.{option_map, option_map_or}
use Rattle.std.proofs.lemmas.List.Sums.{sum-map}
use Rattle.clr_net.specs.Amounts.{IsAtMost}
use Rattle.clr_net.specs.declared.debt.Debt.{Debt}
use Rattle.clr_net.specs.Limits.{IsNetwork}
use Rattle.clr_net.specs.Net.{Net, claim_of}
use Rattle.clr_net.proofs.Lists.{get_or-map_read, sum-le}
use Rattle.clr_net.specs.Claims.{all_claims, of_claim, of_claims, with_claims}

-- the debt in a place has the claim in this place
pub claim_set : (C : List ℕ) (ds : List Debt) (x : ℕ) → length C ≡ length ds
    → slice_get (of_claims C ds) x ≡ option_map (of_claim (get_or C x 0)) (slice_get ds x)
claim_set C [] x l = refl
claim_set [] (d ∷ ds) x l = absurd (omega arith)
claim_set (claim ∷ C) (d ∷ ds) zero l = refl
claim_set (claim ∷ C) (d ∷ ds) (suc x) l = claim_set C ds x (omega arith)

-- there are as many debts as before
pub length-of_claims : (C : List ℕ) (ds : List Debt) → length (of_claims C ds) ≡ length ds
length-of_claims C [] = refl
length-of_claims [] (d ∷ ds) = refl
length-of_claims (claim ∷ C) (d ∷ ds) = ap suc (length-of_claims C ds)

-- and their claims are the new ones
claims_are : (C : List ℕ) (ds : List Debt) → length C ≡ length ds
    → map (λ d. d.claim) (of_claims C ds) ≡ C
claims_are [] [] l = refl
claims_are (claim ∷ C) [] l = absurd (omega arith)
claims_are [] (d ∷ ds) l = absurd (omega arith)
claims_are (claim ∷ C) (d ∷ ds) l = ap (λ (cs : List ℕ). claim ∷ cs) (claims_are C ds (omega arith))

-- what is read of debts, but for their claims, stays
numbers_kept : (f : Debt → ℕ) → ((claim : ℕ) (d : Debt) → f (of_claim claim d) ≡ f d)
    → (C : List ℕ) (ds : List Debt)
    → map f (of_claims C ds) ≡ map f ds
numbers_kept f same C [] = refl
numbers_kept f same [] (d ∷ ds) = refl
numbers_kept f same (claim ∷ C) (d ∷ ds) = rw (same claim d, numbers_kept f same C ds) refl

module _ (net : Net) (C : List ℕ) (network : IsNetwork net) (l : length C ≡ length net.debts)
    (within : IsAtMost C (all_claims net)) where
  -- what does not read the claim of a debt reads the same of each debt
  kept : (f : Debt → ℕ) → ((claim : ℕ) (d : Debt) → f (of_claim claim d) ≡ f d) → (x : ℕ)
      → option_map_or f (slice_get (of_claims C net.debts) x) 0
      ≡ option_map_or f (slice_get net.debts x) 0
  kept f same x =
      sym (get_or-map_read f _ x 0) ∙ ap (λ xs. get_or xs x 0) (numbers_kept f same C net.debts)
      ∙ get_or-map_read f _ x 0

  -- no claim is greater than it was
  claim_le : (x : ℕ) → claim_of (with_claims net C) x ≤ claim_of net x
  claim_le x =
      rw (
        ← get_or-map_read (λ d. d.claim) (of_claims C net.debts) x 0,
        claims_are C net.debts l,
        ←
            get_or-map_read (λ d. d.claim) net.debts x 0,
      ) (within x)

  -- so it is a network
  pub lower_is_network : IsNetwork (with_claims net C)
  lower_is_network = record {
    banks_in_limit = network.banks_in_limit;
    debts_in_limit = omega (arith, length-of_claims C net.debts, network.debts_in_limit);
    owed_in_limit = omega (
      arith,
      sum-map (λ d. d.claim) (of_claims C net.debts),
      ap sum (claims_are C net.debts l),
      sum-le C (all_claims net) within,
      sum-map (λ d. d.claim) net.debts,
      network.owed_in_limit,
    );
    each_bank = λ i b. let bank = network.each_bank i b in search;
    each_debt = λ x m.
        let debt = network.each_debt x (omega (arith, m, length-of_claims C net.debts)) in
        let debtor = kept (λ d. d.debtor.0) (λ claim d. refl) in
        let creditor = kept (λ d. d.creditor.0) (λ claim d. refl) in
        let class = kept (λ d. d.class) (λ claim d. refl) in
        let claim = claim_le x in
        search (arith, debtor, creditor, class, debt.only_of_its_kind);
  }

-- claims that are nowhere greater give a network, whose claims they are
pub lower_claims : (net : Net) (C : List ℕ) → IsNetwork net → length C ≡ length net.debts
    → IsAtMost C (all_claims net)
    → IsNetwork (with_claims net C) × (all_claims (with_claims net C) ≡ C)
lower_claims net C network l within =
    (lower_is_network net C network l within, claims_are C net.debts l)

-- a debt as it is read, with its new claim
pub lower_read : (net : Net) (C : List ℕ) (n : ℕ) (d : Debt) → length C ≡ length net.debts
    → slice_get net.debts n ≡ Some d
    → slice_get (with_claims net C).debts n ≡ Some (of_claim (get_or C n 0) d)
lower_read net C n d l at =
    claim_set C net.debts n l ∙ ap (option_map (of_claim (get_or C n 0))) at
