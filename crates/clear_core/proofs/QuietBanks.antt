-- Payments that clear are those at which each bank is quiet.
use Rattle.std.proofs.Common.{◌≡◌, ◌≢◌, ℕ, ◌<◌, List, length, get_or, map, sym, ap, ◌∙◌, subst, arith}
use Rattle.std.proofs.lemmas.List.{ext_get_or, get_or-map, length-map}
use Rattle.clr_net.specs.Limits.{IsNetwork}
use Rattle.clr_net.specs.Net.{Net, debtor_of, place_in_row, row}
use Rattle.clr_net.proofs.RowsAndColumns.{debt_in_row}
use Rattle.clear_core.specs.Clearing.{receipts, division, pay, Clears}
use Rattle.clear_core.specs.Quiet.{IsQuiet}
use Rattle.clear_core.proofs.BankPays.{award_at, pay_row}
use Rattle.clear_core.proofs.Pay.{length-pay}

-- payments on the debts ns that are the awards, place by place
pub row_agrees : (P ns awards : List ℕ) → length awards ≡ length ns
    → ((k : ℕ) → k < length ns → get_or P (get_or ns k 0) 0 ≡ get_or awards k 0) → map (λ x. get_or P x 0) ns ≡ awards
row_agrees P ns awards l h =
    let paid = λ (x : ℕ). get_or P x 0 in
    ext_get_or 0 (map paid ns) awards (length-map ns paid ∙ sym l) (λ k m.
    let in_row : k < length ns = omega (arith, length-map ns paid) in
    get_or-map paid ns k 0 0 in_row ∙ h k in_row)

-- one that is not its award refutes that all are
pub row_differs : (P ns awards : List ℕ) (k : ℕ) → k < length ns → get_or P (get_or ns k 0) 0 ≢ get_or awards k 0
    → map (λ x. get_or P x 0) ns ≡ awards → ⊥
row_differs P ns awards k l differs same =
    differs (sym (get_or-map (λ x. get_or P x 0) ns k 0 0 l) ∙ ap (λ xs. get_or xs k 0) same)

-- where payments clear each bank is quiet
pub quiet_from_clears : (net : Net) (P : List ℕ) → Clears net P → IsQuiet net P
quiet_from_clears net P c i l =
    subst (λ Q. map (λ x. get_or Q x 0) (row net i) ≡ division net i (receipts net P i)) c (pay_row net P i)

-- where each bank is quiet payments clear
pub clears_from_quiet : (net : Net) (P : List ℕ) → IsNetwork net → length P ≡ length net.debts → IsQuiet net P → Clears net P
clears_from_quiet net P network e h = ext_get_or 0 (pay net P) P (length-pay net P ∙ sym e) (λ x l.
    let in_range : x < length net.debts = omega (arith, length-pay net P) in
    let i = debtor_of net x in
    let k = place_in_row net x in
    let stands = debt_in_row net x in_range in
    sym (award_at net P i k x stands.within stands.at)
    ∙ ap (λ xs. get_or xs k 0) (sym (h i (network.each_debt x in_range).debtor_known))
    ∙ get_or-map (λ y. get_or P y 0) (row net i) k 0 0 stands.within
    ∙ ap (λ y. get_or P y 0) stands.at)
