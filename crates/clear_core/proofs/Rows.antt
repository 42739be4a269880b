-- What a walk over a row or a column reads, and what the limits of a network say of its rows.
use Rattle.std.proofs.Common.{◌≡◌, ◌≢◌, ℕ, ◌+◌, ◌<◌, ◌≤◌, ◌==◌, Bool, All, List, [], ◌∷◌, ◌++◌, length, get_or, filter, map, take, slice_get, Some, sym, ap, ◌∙◌, subst, ⊎_elim, arith}
use Rattle.std.specs.Option.{option_map_or}
use Rattle.std.proofs.lemmas.Bool.{cases_lt}
use Rattle.std.proofs.lemmas.List.{get_or-map, length-map, map-append, take_more}
use Rattle.std.proofs.lemmas.List.Elements.{All-from_get_or}
use Rattle.std.proofs.lemmas.List.FromFn.{length-range_with_len}
use Rattle.std.proofs.lemmas.List.Sums.{length-filter, count_by-le-length}
use Rattle.std.proofs.lemmas.Option.{slice_get_within}
use Rattle.clr_net.specs.declared.TheConstants.{MAX_CLAIM}
use Rattle.clr_net.specs.declared.debt.Debt.{Debt}
use Rattle.clr_net.specs.declared.debt.DebtId.{DebtId}
use Rattle.clr_net.specs.Limits.{IsNetwork}
use Rattle.clr_net.specs.Net.{Net, numbers, debt_numbers, row, column, place_in_row, claim_of, class_of, claims_of, debtor_of, creditor_of}
use Rattle.clr_net.proofs.RowsAndColumns.{StandsInRow, debt_in_row, row_place, column_place, length-claims_of, claim_of_past}

-- a list of debts, read by their numbers
pub as_many_numbers : (ids : List DebtId) (ns : List ℕ) → numbers ids ≡ ns → length ids ≡ length ns
as_many_numbers ids ns e = sym (length-map ids (λ id. id.0)) ∙ ap length e

-- the number in a place is that of the debt there
pub number_at : (ids : List DebtId) (ns : List ℕ) (k : ℕ) (d : DebtId) → numbers ids ≡ ns → k < length ids
    → get_or ns k 0 ≡ (get_or ids k d).0
number_at ids ns k d e l = ap (λ xs. get_or xs k 0) (sym e) ∙ get_or-map (λ id. id.0) ids k d 0 l

-- the debt in the place k of a row
pub debt_of_row : (net : Net) (i : ℕ) (ids : List DebtId) (k : ℕ) (d : DebtId) → numbers ids ≡ row net i → k < length ids
    → StandsInRow net i k (get_or ids k d).0
debt_of_row net i ids k d e l =
    subst (λ x. StandsInRow net i k x) (number_at ids (row net i) k d e l)
    (row_place net i k (omega (arith, as_many_numbers ids (row net i) e)))

-- each debt that a bank owes stands in its row
pub debt_of_bank : (net : Net) (i x : ℕ) → x < length net.debts → debtor_of net x ≡ i
    → StandsInRow net i (place_in_row net x) x
debt_of_bank net i x l owed =
    subst (λ i. StandsInRow net i (place_in_row net x) x) owed (debt_in_row net x l)

-- the debt in the place k of a column
pub debt_of_column : (net : Net) (i : ℕ) (ids : List DebtId) (k : ℕ) (d : DebtId) → numbers ids ≡ column net i → k < length ids
    → (get_or ids k d).0 < length net.debts
debt_of_column net i ids k d e l =
    subst (λ x. x < length net.debts) (number_at ids (column net i) k d e l)
    (column_place net i k (omega (arith, as_many_numbers ids (column net i) e))).0

-- no more debts are picked than there are
length-picked_le : (net : Net) (p : ℕ → Bool) → length (filter p (debt_numbers net)) ≤ length net.debts
length-picked_le net p = omega (
  arith,
  length-filter p (debt_numbers net),
  count_by-le-length p (debt_numbers net),
  length-range_with_len 0 (length net.debts),
)

-- no column is longer than the list of debts
pub length-column_le : (net : Net) (i : ℕ) → length (column net i) ≤ length net.debts
length-column_le net i = length-picked_le net (λ x. creditor_of net x == i)

-- and no row
pub length-row_le : (net : Net) (i : ℕ) → length (row net i) ≤ length net.debts
length-row_le net i = length-picked_le net (λ x. debtor_of net x == i)

-- the debt of a bank's row that has the number x stands in its place
pub place_found : (net : Net) (i : ℕ) (ids : List DebtId) (k : ℕ) (d : DebtId) (x : ℕ) → numbers ids ≡ row net i → k < length ids
    → (get_or ids k d).0 ≡ x → k ≡ place_in_row net x
place_found net i ids k d x e l same = sym (debt_of_row net i ids k d e l).in_place ∙ ap (place_in_row net) same

-- and every debt is found in its debtor's row
pub never_missing : (net : Net) (i x n : ℕ) → i ≡ debtor_of net x → x < length net.debts → length (row net i) ≤ n
    → ((k : ℕ) → k < n → get_or (row net i) k 0 ≢ x) → ⊥
never_missing net i x n e l g h =
    let stands = debt_of_bank net i x l (sym e) in
    h (place_in_row net x) (omega (arith, stands.within)) stands.at

-- the claim of a debt that is read is its claim
pub claim_read : (net : Net) (x : ℕ) (d : Debt) → slice_get net.debts x ≡ Some d → claim_of net x ≡ d.claim
claim_read net x d e = ap (λ o. option_map_or (λ (d : Debt). d.claim) o 0) e

-- and so is its class
pub class_read : (net : Net) (x : ℕ) (d : Debt) → slice_get net.debts x ≡ Some d → class_of net x ≡ d.class
class_read net x d e = ap (λ o. option_map_or (λ (d : Debt). d.class) o 0) e

-- and its creditor
pub creditor_read : (net : Net) (x : ℕ) (d : Debt) → slice_get net.debts x ≡ Some d → creditor_of net x ≡ d.creditor.0
creditor_read net x d e = ap (λ o. option_map_or (λ (d : Debt). d.creditor.0) o 0) e

-- the creditor of a debt is a bank of the network
pub creditor_known : (net : Net) (x : ℕ) (d : Debt) → IsNetwork net → slice_get net.debts x ≡ Some d
    → d.creditor.0 < length net.banks
creditor_known net x d network e =
    omega (arith, creditor_read net x d e, (network.each_debt x (slice_get_within net.debts x d e)).creditor_known)

-- a list of what f gives for the first k numbers, with one more
pub laid_more : (f : ℕ → ℕ) (laid ns : List ℕ) (k x v : ℕ) → laid ≡ map f (take k ns) → k < length ns → get_or ns k 0 ≡ x → f x ≡ v
    → laid ++ v ∷ [] ≡ map f (take (k + 1) ns)
laid_more f laid ns k x v e l at value =
    ap (λ xs. xs ++ v ∷ []) e
    ∙ ap (λ y. map f (take k ns) ++ y ∷ []) (sym value ∙ ap f (sym at))
    ∙ sym (map-append f (take k ns) (get_or ns k 0 ∷ []))
    ∙ ap (map f) (sym (take_more ns k 0 l))

-- past the last bank there is no row
row_past : (net : Net) (i : ℕ) → IsNetwork net → length net.banks ≤ i → length (row net i) ≡ 0
row_past net i network g = ⊎_elim
    (λ (l : 0 < length (row net i)).
    let x = get_or (row net i) 0 0 in
    let stands = row_place net i 0 l in
    absurd (omega (arith, stands.owed, (network.each_debt x stands.in_range).debtor_known)))
    (λ (n : length (row net i) ≤ 0). omega arith)
    (cases_lt 0 (length (row net i)))

-- a bound on the rows of all banks is one on every row
pub longest_of_all : (net : Net) (longest : ℕ) → IsNetwork net
    → ((i : ℕ) → i < length net.banks → length (row net i) ≤ longest) → (i : ℕ) → length (row net i) ≤ longest
longest_of_all net longest network h i = ⊎_elim
    (λ (l : i < length net.banks). h i l)
    (λ (g : length net.banks ≤ i). omega (arith, row_past net i network g))
    (cases_lt i (length net.banks))

-- no claim is above the limit
pub claim_in_limit : (net : Net) (x : ℕ) → IsNetwork net → claim_of net x ≤ MAX_CLAIM
claim_in_limit net x network = ⊎_elim
    (λ (l : x < length net.debts). (network.each_debt x l).claim_in_limit)
    (λ (g : length net.debts ≤ x). omega (arith, claim_of_past net x g))
    (cases_lt x (length net.debts))

-- those of a bank neither
pub claims_in_limit : (net : Net) (i : ℕ) → IsNetwork net → All (λ claim. claim ≤ MAX_CLAIM) (claims_of net i)
claims_in_limit net i network = All-from_get_or (λ claim. claim ≤ MAX_CLAIM) (claims_of net i) 0 (λ k l.
    let in_row : k < length (row net i) = omega (arith, length-claims_of net i) in
    omega (arith, get_or-map (claim_of net) (row net i) k 0 0 in_row, claim_in_limit net (get_or (row net i) k 0) network))
