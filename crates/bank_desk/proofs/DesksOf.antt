-- What a desk takes from its network: it is in the limits, and depends on no other bank.
use Rattle.std.proofs.Common.{◌≡◌, ℕ, ◌<◌, ◌≤◌, All, List, Option, [], map, sum, length, refl, ap, sym, subst, ◌∙◌, arith}
use Rattle.std.specs.Prelude.{slice_get, None, Some}
use Rattle.std.specs.Option.{option_map, option_map_or}
use Rattle.std.proofs.lemmas.Option.{slice_get-map}
use Rattle.clr_net.specs.declared.TheConstants.{MAX_CLAIM, MAX_CLASS}
use Rattle.clr_net.specs.declared.bank.Bank.{Bank}
use Rattle.clr_net.specs.declared.debt.Debt.{Debt}
use Rattle.clr_net.specs.declared.rule.RuleKind.{RuleKind}
use Rattle.clr_net.specs.declared.rule.RuleKind.TheVariants as kind
use Rattle.clr_net.specs.Division.{AreClasses}
use Rattle.clr_net.specs.Limits.{IsNetwork}
use Rattle.clr_net.specs.Net.{Net, cash_of, of_cash, outside_of, rule_of, row, column, claims_of, classes_of}
use Rattle.clr_net.proofs.RowsAndColumns.{length-claims_of, length-classes_of, sum-claims_of_le, classes_of_are}
use Rattle.clear_core.proofs.Rows.{claims_in_limit}
use Rattle.bank_desk.specs.Desks.{BankView, IsSound, desk_of, with_cash_in}

-- the limits of a network are those of each of its desks
pub desk_of_is_sound : (net : Net) (i : ℕ) → IsNetwork net → i < length net.banks → IsSound (desk_of net i)
desk_of_is_sound net i network l = record {
  a_claim_each = length-claims_of net i;
  a_class_each = length-classes_of net i;
  cash_in_limit = (network.each_bank i l).cash_in_limit;
  outside_in_limit = (network.each_bank i l).outside_in_limit;
  claims_in_limit = claims_in_limit net i network;
  owed_in_limit = omega (arith, sum-claims_of_le net i, network.owed_in_limit);
  classes_in_limit = classes_of_are net i network;
}

-- so are those of a desk that has the cash and the row of a bank
pub sound_as_desk_of : (net : Net) (i : ℕ) (desk : BankView) → IsNetwork net → i < length net.banks
    → desk.cash ≡ cash_of net i → desk.outside ≡ outside_of net i → desk.debts_out ≡ row net i → desk.claims ≡ claims_of net i → desk.classes ≡ classes_of net i
    → IsSound desk
sound_as_desk_of net i desk network l cash outside out claims classes =
    let sound = desk_of_is_sound net i network l in
    record {
      a_claim_each = ap length claims ∙ sound.a_claim_each ∙ sym (ap length out);
      a_class_each = ap length classes ∙ sound.a_class_each ∙ sym (ap length out);
      cash_in_limit = omega (arith, cash, sound.cash_in_limit);
      outside_in_limit = omega (arith, outside, sound.outside_in_limit);
      claims_in_limit = subst (λ claims. All (λ claim. claim ≤ MAX_CLAIM) claims) (sym claims) sound.claims_in_limit;
      owed_in_limit = omega (arith, ap sum claims, sound.owed_in_limit);
      classes_in_limit = subst (λ classes. AreClasses classes 1 MAX_CLASS) (sym classes) sound.classes_in_limit;
    }

-- the cash of a bank that was read
pub cash_read : (net : Net) (i : ℕ) (b : Bank) → slice_get net.banks i ≡ Some b → cash_of net i ≡ b.cash
cash_read net i b e = ap (λ o. option_map_or (λ (b : Bank). b.cash) o 0) e

-- and what it owes outside
pub outside_read : (net : Net) (i : ℕ) (b : Bank) → slice_get net.banks i ≡ Some b → outside_of net i ≡ b.outside
outside_read net i b e = ap (λ o. option_map_or (λ (b : Bank). b.outside) o 0) e

-- what the bank i knows where it is this bank, and these are the debts
abbrev desk_among : ℕ → Option Bank → List Debt → BankView
desk_among i own debts =
    let net : Net = record { banks = []; debts = debts } in
    record {
      bank = i;
      cash = option_map_or (λ b. b.cash) own 0;
      outside = option_map_or (λ b. b.outside) own 0;
      rule = option_map_or (λ b. b.rule) own kind.Order;
      debts_out = row net i;
      claims = claims_of net i;
      classes = classes_of net i;
      debts_in = column net i;
    }

-- the other banks do not count
pub desk_of_own_bank : (net other : Net) (i : ℕ) → slice_get net.banks i ≡ slice_get other.banks i → net.debts ≡ other.debts
    → desk_of net i ≡ desk_of other i
desk_of_own_bank net other i own debts =
    ap (λ o. desk_among i o net.debts) own ∙ ap (desk_among i (slice_get other.banks i)) debts

-- what a bank has beside its cash stays where its cash is taken away
beside_cash : {A : Type 0} (f : Bank → A) (d : A) (own : Option Bank) → ((b : Bank) → f (of_cash 0 b) ≡ f b)
    → option_map_or f (option_map (of_cash 0) own) d ≡ option_map_or f own d
beside_cash f d None same = refl
beside_cash f d (Some b) same = same b

-- so it is the same at banks that differ in their cash alone
alike_beside_cash : {A : Type 0} (f : Bank → A) (d : A) (banks others : List Bank) (i : ℕ) → ((b : Bank) → f (of_cash 0 b) ≡ f b)
    → map (of_cash 0) others ≡ map (of_cash 0) banks → option_map_or f (slice_get banks i) d ≡ option_map_or f (slice_get others i) d
alike_beside_cash f d banks others i same alike =
    sym (beside_cash f d (slice_get banks i) same)
    ∙ ap (λ o. option_map_or f o d) (sym (slice_get-map (of_cash 0) banks i) ∙ ap (λ bs. slice_get bs i) (sym alike) ∙ slice_get-map (of_cash 0) others i)
    ∙ beside_cash f d (slice_get others i) same

-- what the bank i knows that has this cash, outside claim and rule, among these debts
abbrev known : ℕ → ℕ → ℕ → RuleKind → List Debt → BankView
known i cash outside rule debts =
    let net : Net = record { banks = []; debts = debts } in
    record {
      bank = i;
      cash = cash;
      outside = outside;
      rule = rule;
      debts_out = row net i;
      claims = claims_of net i;
      classes = classes_of net i;
      debts_in = column net i;
    }

-- a desk with the cash of another network that differs in cash alone is of that network
pub desk_of_other_cash : (net other : Net) (i : ℕ) → map (of_cash 0) other.banks ≡ map (of_cash 0) net.banks → other.debts ≡ net.debts
    → with_cash_in other (desk_of net i) ≡ desk_of other i
desk_of_other_cash net other i alike debts =
    let cash = cash_of other i in
    ap (λ n. known i cash n (rule_of net i) net.debts) (alike_beside_cash (λ b. b.outside) 0 net.banks other.banks i (λ b. refl) alike)
    ∙ ap (λ r. known i cash (outside_of other i) r net.debts) (alike_beside_cash (λ b. b.rule) kind.Order net.banks other.banks i (λ b. refl) alike)
    ∙ ap (known i cash (outside_of other i) (rule_of other i)) (sym debts)
