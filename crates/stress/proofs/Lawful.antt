-- The scenarios that are read are scenarios of the network.
use Rattle.std.proofs.Common.{◌≡◌, ◌≢◌, ℕ, zero, suc, ◌+◌, ◌<◌, ◌≤◌, nat_le, nat_lt, false, ℤ, pos, negsuc, List, [], ◌∷◌, ◌++◌, length, length-append, codes, Some, Result, Ok, Err, Vec, Global, true≢false, sym, ◌∙◌, subst, arith, eq-eqb}
use Rattle.std.specs.List.{All, AllPairs, list_any}
use Rattle.std.specs.Option.{ok_or}
use Rattle.std.specs.Result.{IfOk}
use Rattle.std.proofs.lemmas.Bool.{leb-true, ltb-true, not-true, or_parts}
use Rattle.std.proofs.lemmas.Option.{cond_some}
use Rattle.std.proofs.lemmas.List.Elements.{All-push}
use Rattle.std.proofs.lemmas.List.Quantifiers.{all_pairs_push}
use Rattle.toml.specs.Data.{Data, Items, no_items, item, Members, get_member}
use Rattle.clr_net.proofs.BankNames.{named_there}
use Rattle.clr_net.specs.Name.{is_name}
use Rattle.clr_net.specs.Net.{Net}
use Rattle.net_check.proofs.Passed.{and_then-ok, fault_unless-ok, in_row-ok, ok_or-ok}
use Rattle.net_check.specs.declared.fault.FaultKind.TheVariants as fault
use Rattle.net_check.specs.declared.fault.FileKind.TheVariants as file
use Rattle.net_check.specs.declared.fault.ReadNet.{ReadNet}
use Rattle.stress.specs.Reading.{loss_in, read_losses, named_cut, scenario_in, scenario_in_row, next_scenario, read_all, scenarios_in, fault_in}
use Rattle.stress.specs.Shape.{as_loss, as_parts, array_or_none, has_only, up_to}
use Rattle.stress.specs.Shocks.{IsScenarioOf, HasLossesInLimit, is_of_bank}
use Rattle.stress.specs.declared.TheConstants.{MAX_CUT, MAX_LOSS, MAX_SCENARIOS}
use Rattle.stress.specs.declared.scenario.Loss.{Loss}
use Rattle.stress.specs.declared.scenario.Scenario.{Scenario}

-- losses of banks of the network, each at most once and within the limit
record AreLosses (net : Net) (losses : List Loss) : Type 0 where
  known : All (λ l. l.bank.0 < length net.banks) losses
  different : AllPairs (λ l m. l.bank.0 ≢ m.bank.0) losses
  in_limit : All (λ l. l.amount ≤ MAX_LOSS) losses

-- no loss is of a bank that is not listed
not_listed : (bank : ℕ) (losses : List Loss) → list_any (is_of_bank bank) losses ≡ false
    → All (λ l. l.bank.0 ≢ bank) losses
not_listed bank [] none k d l = absurd (omega arith)
not_listed bank (m ∷ losses) none zero d l = λ same.
    true≢false (sym (eq-eqb m.bank.0 bank same)
    ∙ (or_parts (is_of_bank bank m) (list_any (is_of_bank bank) losses) none).0)
not_listed bank (m ∷ losses) none (suc k) d l =
    not_listed bank losses (or_parts (is_of_bank bank m) (list_any (is_of_bank bank) losses) none).1
    k d (omega arith)

-- a number up to a limit is
up_to-some : (limit : ℕ) (z : ℤ) (n : ℕ) → up_to limit z ≡ Some n → n ≤ limit
up_to-some limit (pos m) n h =
    let (small, same) = cond_some (nat_le m limit) m n h in
    omega (arith, leb-true m limit small)
up_to-some limit (negsuc m) n h = absurd (cc)

-- a loss that is read is of a bank that none before it is of, so with it they are losses too
one_loss_more : (net : Net) (before : List Loss) (value : Data) (l : Loss) → AreLosses net before
    → loss_in net before value ≡ Ok l → AreLosses net (before ++ l ∷ [])
one_loss_more net before value l good h =
    let (p, _, shaped) = and_then-ok (ok_or (as_loss value) fault.Shape) _ l h in
    let (bank, named, rest) = and_then-ok _ _ l shaped in
    let (unlisted, kept) = fault_unless-ok _ _ _ l rest in
    let (amount, limit, is) = and_then-ok _ _ l kept in
    let m : Loss = record { bank = record { 0 = bank }; amount = amount } in
    let same : m ≡ l = cc in
    subst (λ l. AreLosses net (before ++ l ∷ [])) {x = m} same (record {
      known = All-push (λ l. l.bank.0 < length net.banks) before m good.known
          (named_there net p.0 bank (ok_or-ok _ _ bank named)).0;
      different = all_pairs_push (λ l m. l.bank.0 ≢ m.bank.0) before m good.different
          (not_listed bank before (not-true _ unlisted));
      in_limit = All-push (λ l. l.amount ≤ MAX_LOSS) before m good.in_limit
          (up_to-some MAX_LOSS p.1 amount (ok_or-ok _ _ amount limit));
    })

-- so all losses that are read are
losses_are : (net : Net) (values : Items) (before after : List Loss) → AreLosses net before
    → read_losses net before values ≡ Ok after → AreLosses net after
unfolding read_losses
losses_are net no_items before after good h =
    let same : before ≡ after = cc in subst (AreLosses net) same good
losses_are net (item value rest) before after good h =
    let (l, is, more) = and_then-ok (loss_in net before value) _ after h in
    losses_are net rest (before ++ l ∷ []) after (one_loss_more net before value l good is) more

-- and no loss is none
none_are : (net : Net) → AreLosses net []
none_are net = record {
  known = λ k d l. absurd (omega arith);
  different = λ j k d l m. absurd (omega arith);
  in_limit = λ k d l. absurd (omega arith);
}

-- what a scenario that is read has
abbrev IsRead : Net → Scenario → Type 0
IsRead net s = IsScenarioOf net s × HasLossesInLimit s

-- a scenario that is read has it
scenario_is : (net : Net) (value : Data) (s : Scenario) → scenario_in net value ≡ Ok s
    → IsRead net s
scenario_is net value s h =
    let (p, _, shaped) = and_then-ok (ok_or (as_parts value) fault.Shape) _ s h in
    let (cut, named, rest) = and_then-ok (named_cut p) _ s shaped in
    let (_, limit) = fault_unless-ok (is_name p.name) _ (ok_or (up_to MAX_CUT p.cut) _) cut named in
    let (losses, read, is) = and_then-ok _ _ s rest in
    let good = losses_are net p.losses [] losses (none_are net) read in
    let x : Scenario = record { name = p.name; cut = cut; losses = losses } in
    let same : x ≡ s = cc in
    subst (IsRead net) {x = x} same (
      record {
        cut_in_limit = up_to-some MAX_CUT p.cut cut (ok_or-ok _ _ cut limit);
        of_known_banks = good.known;
        of_different_banks = good.different;
      },
      good.in_limit,
    )

-- scenarios that have it, no more than the limit
pub record AreScenarios (net : Net) (all : List Scenario) : Type 0 where
  pub read : All (IsRead net) all
  pub few : length all ≤ MAX_SCENARIOS

-- so all scenarios that are read are
all_are : (net : Net) (values : Items) (before after : List Scenario) → AreScenarios net before
    → read_all net before values ≡ Ok after → AreScenarios net after
unfolding read_all
all_are net no_items before after good h =
    let same : before ≡ after = cc in subst (AreScenarios net) same good
all_are net (item value rest) before after good h =
    let (s, is, more) = and_then-ok (next_scenario net before value) _ after h in
    let (fits, told) = fault_unless-ok (nat_lt (length before) MAX_SCENARIOS) _ (scenario_in_row net _ value) s is in
    let read = scenario_is net value s (in_row-ok file.Scenarios (length before + 1) _ s told) in
    let count = length-append before (s ∷ []) in
    all_are net rest (before ++ s ∷ []) after (record {
      read = All-push (IsRead net) before s good.read read;
      few = omega (arith, ltb-true (length before) MAX_SCENARIOS fits);
    }) more

-- those of a document too, where there is memory
pub document_is : (net : Net) (document : Members) (r : Result (Vec Scenario Global) ReadNet)
    → IfOk r (λ all. scenarios_in net document ≡ Ok all.items)
    → IfOk r (λ all. AreScenarios net all.items)
document_is net document (Err e) h = tt
document_is net document (Ok all) h =
    let (_, shaped) = fault_unless-ok (has_only (codes "scenario" ∷ []) document) _ _ all.items h in
    let found = ok_or (array_or_none (get_member (codes "scenario") document)) (fault_in 0 fault.Shape) in
    let (values, _, is) = and_then-ok found (read_all net []) all.items shaped in
    all_are net values [] all.items
    (record { read = λ k d l. absurd (omega arith); few = omega arith }) is
