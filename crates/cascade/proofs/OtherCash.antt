-- Networks that differ in cash alone.
use Rattle.std.proofs.Common.{◌≡◌, ℕ, suc, ◌<◌, ◌≤◌, List, [], ◌∷◌, length, get_or, map, slice_get, refl, sym, ap, ◌∙◌, arith}
use Rattle.std.specs.Option.{option_map_or}
use Rattle.std.proofs.lemmas.List.{length-map}
use Rattle.clr_net.specs.declared.bank.Bank.{Bank}
use Rattle.clr_net.specs.declared.rule.RuleKind.TheVariants as kind
use Rattle.clr_net.specs.Net.{Net, cash_of, of_cash, with_cash}
use Rattle.clr_net.proofs.ChangedAt.{map-changed_at}
use Rattle.clear_core.specs.Sums.{AreSums}
use Rattle.clear_core.specs.declared.payments.Sums.{Sums}
use Rattle.clear_core.proofs.Summing.{same_sums}
use Rattle.cascade.specs.MoreCash.{HasMoreCash, IsOfOtherCash}
use Rattle.cascade.proofs.PayingOut.{banks_at}

-- the cash of the bank j of a list
abbrev pub cash_in : List Bank → ℕ → ℕ
cash_in banks j = option_map_or (λ b. b.cash) (slice_get banks j) 0

-- a network of other cash has as many banks
pub as_many_alike : (net other : Net) → IsOfOtherCash net other
    → length other.banks ≡ length net.banks
as_many_alike net other alike =
    sym (length-map other.banks (of_cash 0)) ∙ ap length alike.0 ∙ length-map net.banks (of_cash 0)

-- and is one still with another cash at a bank
pub alike_set : (net other : Net) (i c : ℕ) → IsOfOtherCash net other
    → IsOfOtherCash net (with_cash other i c)
alike_set net other i c alike =
    (map-changed_at (of_cash 0) (of_cash c) (λ b. refl) other.banks i ∙ alike.0, alike.1)

-- what does not see the cash of a bank is the same of banks that differ in it alone
unseen : {A : Type 0} (g : Bank → A) → ((b : Bank) → g (of_cash 0 b) ≡ g b)
    → (xs ys : List Bank) → map (of_cash 0) xs ≡ map (of_cash 0) ys → map g xs ≡ map g ys
unseen g same [] [] alike = refl
unseen g same [] (y ∷ ys) alike = absurd (cc)
unseen g same (x ∷ xs) [] alike = absurd (cc)
unseen g same (x ∷ xs) (y ∷ ys) alike =
    let first : of_cash 0 x ≡ of_cash 0 y = cc in
    let later : map (of_cash 0) xs ≡ map (of_cash 0) ys = cc in
    let here : g x ≡ g y = sym (same x) ∙ ap g first ∙ same y in
    let rest = unseen g same xs ys later in
    λ at. here at ∷ rest at

-- so what is read of the bank i stays
pub kept_at : {A : Type 0} (g : Bank → A) (d : A) → ((b : Bank) → g (of_cash 0 b) ≡ g b)
    → (net other : Net) (i : ℕ) → IsOfOtherCash net other
    → option_map_or g (slice_get other.banks i) d ≡ option_map_or g (slice_get net.banks i) d
kept_at g d same net other i alike =
    sym (banks_at g other.banks i d)
    ∙ ap (λ xs. get_or xs i d) (unseen g same other.banks net.banks alike.0)
    ∙ banks_at g net.banks i d

-- and of two networks of other cash the one has more where no bank of it has less
pub alike_with_more : (net less more : Net) → IsOfOtherCash net less → IsOfOtherCash net more
    → ((i : ℕ) → cash_of less i ≤ cash_of more i) → HasMoreCash less more
alike_with_more net less more poor rich cash = record {
  banks = as_many_alike net more rich ∙ sym (as_many_alike net less poor);
  rules = λ i. kept_at (λ b. b.rule) kind.Order (λ b. refl) net more i rich
      ∙ sym (kept_at (λ b. b.rule) kind.Order (λ b. refl) net less i poor);
  outside = λ i. kept_at (λ b. b.outside) 0 (λ b. refl) net more i rich
      ∙ sym (kept_at (λ b. b.outside) 0 (λ b. refl) net less i poor);
  cash = cash;
  debts = rich.1 ∙ sym poor.1;
}

-- banks that differ in cash alone, and have the same, are the same
same_banks : (xs ys : List Bank) → map (of_cash 0) xs ≡ map (of_cash 0) ys
    → ((i : ℕ) → i < length ys → cash_in xs i ≡ cash_in ys i) → xs ≡ ys
same_banks [] [] alike same = refl
same_banks [] (y ∷ ys) alike same = absurd (cc)
same_banks (x ∷ xs) [] alike same = absurd (cc)
same_banks (x ∷ xs) (y ∷ ys) alike same =
    let first : of_cash 0 x ≡ of_cash 0 y = cc in
    let later : map (of_cash 0) xs ≡ map (of_cash 0) ys = cc in
    let cash : x.cash ≡ y.cash = same 0 (omega arith) in
    let rest : xs ≡ ys = same_banks xs ys later (λ i l. same (suc i) (omega arith)) in
    λ at. of_cash (cash at) (first at) ∷ rest at

-- so networks of other cash whose banks have the same are the same
pub same_by_cash : (net a b : Net) → IsOfOtherCash net a → IsOfOtherCash net b
    → ((i : ℕ) → i < length net.banks → cash_of a i ≡ cash_of b i) → a ≡ b
same_by_cash net a b first second same =
    let banks = same_banks a.banks b.banks (first.0 ∙ sym second.0)
    (λ i l. same i (omega (arith, as_many_alike net b second))) in
    let debts = first.1 ∙ sym second.1 in
    λ at. record { banks = banks at; debts = debts at }

-- payments have the same sums in it, and back
pub sums_alike : (net other : Net) (P : List ℕ) (sums : List Sums) → IsOfOtherCash net other
    → AreSums net P sums → AreSums other P sums
sums_alike net other P sums alike = same_sums net other P sums (as_many_alike net other alike) alike.1

-- and back
pub sums_back : (net other : Net) (P : List ℕ) (sums : List Sums) → IsOfOtherCash net other
    → AreSums other P sums → AreSums net P sums
sums_back net other P sums alike =
    same_sums other net P sums (sym (as_many_alike net other alike)) (sym alike.1)
