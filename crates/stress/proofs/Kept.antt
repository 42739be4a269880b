-- What a shock keeps, and what it leaves of each bank's cash.
use Rattle.std.proofs.Common.{◌≡◌, ℕ, zero, suc, ◌+◌, ◌-◌, ◌<◌, List, [], ◌∷◌, length, map, refl, sym, ap, ◌∙◌, arith}
use Rattle.std.proofs.lemmas.List.{length-map}
use Rattle.clr_net.specs.declared.bank.Bank.{Bank}
use Rattle.clr_net.specs.declared.rule.RuleKind.TheVariants as kind
use Rattle.clr_net.specs.Net.{Net, cash_of, of_cash}
use Rattle.cascade.specs.MoreCash.{IsOfOtherCash}
use Rattle.cascade.proofs.OtherCash.{cash_in, kept_at, same_by_cash}
use Rattle.stress.specs.Shocks.{KeepsAllButCash, after_cut, after_shock, loss_of, shocked, shocked_from}
use Rattle.stress.specs.declared.scenario.Loss.{Loss}
use Rattle.stress.specs.declared.scenario.Scenario.{Scenario}

-- banks after a shock differ in cash alone
alike_from : (cut i : ℕ) (losses : List Loss) (banks : List Bank)
    → map (of_cash 0) (shocked_from cut losses i banks) ≡ map (of_cash 0) banks
alike_from cut i losses [] = refl
alike_from cut i losses (b ∷ banks) =
    let rest = alike_from cut (suc i) losses banks in λ at. of_cash 0 b ∷ rest at

-- so a network after a shock is of other cash
pub alike_after : (net : Net) (cut : ℕ) (losses : List Loss)
    → IsOfOtherCash net (after_shock cut losses net)
alike_after net cut losses = (alike_from cut 0 losses net.banks, refl)

-- and a shock leaves no bank out
pub length-shocked_from : (cut i : ℕ) (losses : List Loss) (banks : List Bank)
    → length (shocked_from cut losses i banks) ≡ length banks
length-shocked_from cut i losses banks =
    sym (length-map (shocked_from cut losses i banks) (of_cash 0))
    ∙ ap length (alike_from cut i losses banks)
    ∙ length-map banks (of_cash 0)

-- a shock changes nothing but cash
pub keeps_all_but_cash : (net : Net) (s : Scenario) → KeepsAllButCash net (shocked net s)
keeps_all_but_cash net s =
    let alike = alike_after net s.cut s.losses in
    record {
      banks = length-shocked_from s.cut 0 s.losses net.banks;
      names = λ i. kept_at (λ b. b.name) [] (λ b. refl) net (shocked net s) i alike;
      rules = λ i. kept_at (λ b. b.rule) kind.Order (λ b. refl) net (shocked net s) i alike;
      outside = λ i. kept_at (λ b. b.outside) 0 (λ b. refl) net (shocked net s) i alike;
      debts = refl;
    }

-- what is left of the cash of a bank, of a list that begins with the bank i
cash_from : (cut : ℕ) (losses : List Loss) (i n k : ℕ) (banks : List Bank) → i + n ≡ k
    → cash_in (shocked_from cut losses i banks) n ≡ after_cut cut (cash_in banks n) - loss_of losses k
cash_from cut losses i n k [] e = omega arith
cash_from cut losses i zero k (b ∷ banks) e =
    let same : i ≡ k = omega arith in ap (λ j. after_cut cut b.cash - loss_of losses j) same
cash_from cut losses i (suc n) k (b ∷ banks) e =
    cash_from cut losses (suc i) n k banks (omega arith)

-- and of that of the bank i of a network
pub shocked_cash : (net : Net) (cut : ℕ) (losses : List Loss) (i : ℕ)
    → cash_of (after_shock cut losses net) i ≡ after_cut cut (cash_of net i) - loss_of losses i
shocked_cash net cut losses i = cash_from cut losses 0 i i net.banks (omega arith)

-- so it is in a scenario
pub leaves_cash : (net : Net) (s : Scenario) (i : ℕ)
    → cash_of (shocked net s) i ≡ after_cut s.cut (cash_of net i) - loss_of s.losses i
leaves_cash net s = shocked_cash net s.cut s.losses

-- a network of other cash whose banks have what a shock leaves is the one that it leaves
pub is_shocked : (net other : Net) (cut : ℕ) (losses : List Loss) → IsOfOtherCash net other
    → ((i : ℕ) → i < length net.banks
    → cash_of other i ≡ after_cut cut (cash_of net i) - loss_of losses i)
    → other ≡ after_shock cut losses net
is_shocked net other cut losses alike same =
    same_by_cash net other (after_shock cut losses net) alike (alike_after net cut losses)
    (λ i l. same i l ∙ sym (shocked_cash net cut losses i))
