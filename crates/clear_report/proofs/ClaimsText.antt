-- The text of some claims is the debts file of the network with these claims.
use Rattle.std.proofs.Common.{◌≡◌, ℕ, suc, ◌+◌, List, [], ◌∷◌, ◌++◌, length, get_or, slice_get, sum}
use Rattle.std.proofs.Common.{Option, Some, None, refl, sym, ap, ◌∙◌, subst, arith, Ok}
use Rattle.std.proofs.lemmas.List.Sums.{sum-map}
use Rattle.std.specs.List.{flat_map, range_with_len}
use Rattle.std.specs.Option.{option_map}
use Rattle.clr_net.specs.Amounts.{IsAtMost}
use Rattle.clr_net.specs.Claims.{all_claims, of_claim, of_claims, with_claims}
use Rattle.clr_net.specs.Limits.{IsNetwork}
use Rattle.clr_net.specs.Lines.{line}
use Rattle.clr_net.specs.Net.{Net}
use Rattle.clr_net.specs.declared.debt.Debt.{Debt}
use Rattle.clr_net.proofs.Lists.{sum-le}
use Rattle.clr_net.proofs.LowerClaims.{claim_set, length-of_claims, lower_is_network, lower_claims}
use Rattle.net_check.specs.Within.{IsWithin}
use Rattle.net_check.specs.declared.limits.Limits.{Limits}
use Rattle.net_csv.specs.Printing.{KeepsNames, banks_text, debt_line, debts_text}
use Rattle.net_csv.specs.Reading.{debts_header, network_within}
use Rattle.net_csv.proofs.ReadBack.{printed_is_read_back}
use Rattle.clear_report.specs.Compression.{claim_line, claims_text}

-- what is written number by number, from a on, is what is written debt by debt
by_number : (f : ℕ → List ℕ) (g : Debt → List ℕ) (ds : List Debt) (a : ℕ)
    → ((k : ℕ) (d : Debt) → slice_get ds k ≡ Some d → f (a + k) ≡ g d)
    → flat_map f (range_with_len a (length ds)) ≡ flat_map g ds
by_number f g [] a h = refl
by_number f g (d ∷ ds) a h =
    let here : f a ≡ g d = ap f (omega arith) ∙ h 0 d refl in
    let rest = by_number f g ds (a + 1) (λ k e at. ap f (omega arith) ∙ h (suc k) e at) in
    cc

-- the line of a debt with its new claim
line_of : (net : Net) (C : List ℕ) (k : ℕ) (o : Option Debt) (e : Debt) → slice_get net.debts k ≡ o
    → option_map (of_claim (get_or C k 0)) o ≡ Some e
    → claim_line net C k ≡ debt_line (with_claims net C) e
line_of net C k None e at is = absurd (cc)
line_of net C k (Some d) e at is =
    let same : of_claim (get_or C k 0) d ≡ e = cc in
    subst (λ x. claim_line net C k ≡ debt_line (with_claims net C) x) same (rw (at) refl)

-- so the text of claims is the file of the network with these claims
pub claims_text_is : (net : Net) (C : List ℕ) → length C ≡ length net.debts
    → claims_text net C ≡ debts_text (with_claims net C)
claims_text_is net C l =
    ap (λ rows. line debts_header ++ rows)
    (ap (λ n. flat_map (claim_line net C) (range_with_len 0 n)) (sym (length-of_claims C net.debts))
    ∙ by_number (claim_line net C) (debt_line (with_claims net C)) (of_claims C net.debts) 0
    (λ k e at. ap (claim_line net C) (omega arith)
    ∙ line_of net C k (slice_get net.debts k) e refl (sym (claim_set C net.debts k l) ∙ at)))

-- lower claims are within the limits that claims are within
lower_is_within : (by : Limits) (net : Net) (C : List ℕ) → IsNetwork net → IsWithin by net
    → length C ≡ length net.debts → IsAtMost C (all_claims net)
    → IsWithin by (with_claims net C)
lower_is_within by net C network small l low = record {
  banks = small.banks;
  debts = omega (arith, length-of_claims C net.debts, small.debts);
  owed = omega (
    arith,
    sum-map (λ d. d.claim) (of_claims C net.debts),
    ap sum (lower_claims net C network l low).1,
    sum-le C (all_claims net) low,
    sum-map (λ d. d.claim) net.debts,
    small.owed,
  );
}

-- and it is read as that network
pub claims_read_back : (by : Limits) (net : Net) (C : List ℕ) → IsNetwork net → IsWithin by net
    → KeepsNames net → length C ≡ length net.debts → IsAtMost C (all_claims net)
    → network_within by (banks_text net) (claims_text net C) ≡ Ok (with_claims net C)
claims_read_back by net C network small names l low =
    ap (network_within by (banks_text net)) (claims_text_is net C l)
    ∙ printed_is_read_back by (with_claims net C) (lower_is_network net C network l low)
    (lower_is_within by net C network small l low) names
