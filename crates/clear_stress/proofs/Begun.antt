-- The lines of payments begin alike in networks that differ in cash alone.
use Rattle.std.proofs.Common.{◌≡◌, ℕ, zero, suc, List, [], ◌∷◌, map, slice_get, refl, ap, ◌∙◌}
use Rattle.std.specs.Option.{option_map_or}
use Rattle.std.specs.Fmt.{decimal}
use Rattle.clr_net.specs.declared.bank.Bank.{Bank}
use Rattle.clr_net.specs.declared.debt.Debt.{Debt}
use Rattle.clr_net.specs.Net.{Net, class_of, claim_of, creditor_of, debt_numbers, debtor_of, name_of, of_cash}
use Rattle.clear_report.specs.Text.{head_of, heads_of}
use Rattle.clear_report.specs.Words.{with_commas}
use Rattle.cascade.specs.MoreCash.{IsOfOtherCash}

-- banks that differ in cash alone have the same names
same_name : (banks others : List Bank) (i : ℕ) → map (of_cash 0) others ≡ map (of_cash 0) banks
    → option_map_or (λ (b : Bank). b.name) (slice_get others i) [] ≡ option_map_or (λ (b : Bank). b.name) (slice_get banks i) []
same_name [] [] i h = refl
same_name [] (o ∷ others) i h = absurd (cc)
same_name (b ∷ banks) [] i h = absurd (cc)
same_name (b ∷ banks) (o ∷ others) zero h =
    let same : of_cash 0 o ≡ of_cash 0 b = cc in
    ap (λ (c : Bank). c.name) same
same_name (b ∷ banks) (o ∷ others) (suc i) h =
    let rest : map (of_cash 0) others ≡ map (of_cash 0) banks = cc in
    same_name banks others i rest

-- the beginning of the line of the debt x
head_kept : (net : Net) (others : List Bank) → map (of_cash 0) others ≡ map (of_cash 0) net.banks → (x : ℕ)
    → head_of (record { banks = others; debts = net.debts }) x ≡ head_of net x
head_kept net others alike x =
    let last = decimal (class_of net x) ∷ decimal (claim_of net x) ∷ [] in
    ap (λ n. with_commas (n ∷ option_map_or (λ (b : Bank). b.name) (slice_get others (creditor_of net x)) [] ∷ last)) (same_name net.banks others (debtor_of net x) alike)
    ∙ ap (λ n. with_commas (name_of net (debtor_of net x) ∷ n ∷ last)) (same_name net.banks others (creditor_of net x) alike)

-- so all beginnings are the same
pub heads_kept : (net other : Net) → IsOfOtherCash net other → heads_of other ≡ heads_of net
heads_kept net other alike =
    ap (λ (debts : List Debt). (let m : Net = record { banks = other.banks; debts = debts } in heads_of m)) alike.1
    ∙ (λ i. map (λ x. head_kept net other.banks alike.0 x i) (debt_numbers net))
