-- How far the search for a sum has come, and what each step adds.
use Rattle.std.proofs.Common.{◌≡◌, ℕ, ◌+◌, ◌-◌, ◌<◌, ◌≤◌, ◌==◌, cond, List, length, slice_get, Some, refl, sym, ap, ◌∙◌, subst, arith}
use Rattle.std.proofs.lemmas.Bool.Decides.{nat_tests}
use Rattle.clr_net.specs.declared.TheConstants.{MAX_CASH, MAX_OWED, MAX_OUTSIDE}
use Rattle.clr_net.specs.declared.bank.Bank.{Bank}
use Rattle.clr_net.specs.Limits.{IsNetwork}
use Rattle.clr_net.specs.Net.{Net, cash_of, with_cash}
use Rattle.clr_net.proofs.RowsAndColumns.{sum-claims_of_le}
use Rattle.clear_core.specs.Clearing.{estate, least, receipts}
use Rattle.clear_core.specs.Sums.{AreSums, HaveSums}
use Rattle.clear_core.specs.declared.payments.Payments.{Payments}
use Rattle.clear_core.specs.declared.payments.Sums.{Sums}
use Rattle.clear_core.proofs.Summing.{same_sums}
use Rattle.cascade.specs.Standings.{due}
use Rattle.rescue.specs.Bound.{bound, missing, received_with}
use Rattle.rescue.specs.Rescue.{DifferInCash, added, lacks, Saves, IsRescue, rescue, short_of}
use Rattle.rescue.specs.Searching.{IsRangeOf}
use Rattle.rescue.specs.declared.range.Range.{Range}
use Rattle.cascade.proofs.CashAt.{cash_read, later_cash_counts, length-with_cash, outside_stays}
use Rattle.rescue.proofs.Bound.{bound_is_below}
use Rattle.rescue.proofs.LeastSum.{saves_enough, enough_saves, less_fails, all_due_saves, rescue_is, rescue_only, short_above}

module _ (net : Net) (i : ℕ) where
  -- what a bank owes is within the limits together
  pub due_le : IsNetwork net → i < length net.banks → due net i ≤ MAX_OWED + MAX_OUTSIDE
  due_le network l =
      let bank = network.each_bank i l in
      omega (arith, sum-claims_of_le net i, network.owed_in_limit, bank.outside_in_limit)

  -- no sum up to what is missing takes a bank over the limit on cash
  pub fits : (a : ℕ) → IsNetwork net → i < length net.banks → a ≤ due net i - cash_of net i
      → cash_of net i + a ≤ MAX_CASH
  fits a network l g =
      omega (arith, due_le network l, (network.each_bank i l).cash_in_limit, g)

  -- a network that differs in the cash of the bank has as many banks
  pub as_many_banks : (more : Net) → DifferInCash net more i → length more.banks ≡ length net.banks
  as_many_banks more differ =
      sym (length-with_cash more i 0)
      ∙ ap (λ (n : Net). length n.banks) (differ 0)
      ∙ length-with_cash net i 0

  -- and still differs in it once it is changed
  pub still_differ : (more after : Net) (c : ℕ) → DifferInCash net more i
      → after ≡ with_cash more i c → DifferInCash net after i
  still_differ more after c differ e d = rw e (later_cash_counts more i c d ∙ differ d)

  -- payments have the same sums with more cash at the bank
  pub sums_added : (a : ℕ) (P : List ℕ) (sums : List Sums) → AreSums net P sums → AreSums (added net i a) P sums
  sums_added a P sums = same_sums net (added net i a) P sums (length-with_cash net i (cash_of net i + a)) refl

  -- and the other way round
  pub sums_without : (a : ℕ) (P : List ℕ) (sums : List Sums) → AreSums (added net i a) P sums → AreSums net P sums
  sums_without a P sums =
      same_sums (added net i a) net P sums (sym (length-with_cash net i (cash_of net i + a))) refl

  -- what is lacking is told by the network with the sum
  pub lacks_told : (more : Net) (a : ℕ) (paid : List ℕ) → more ≡ added net i a → paid ≡ least more
      → due more i - estate more paid i ≡ lacks net i a
  lacks_told more a paid e p = rw (p, e) (omega (arith, outside_stays net i (cash_of net i + a) i))

-- of the bank b, which is the bank i
module _ (net : Net) (i : ℕ) (network : IsNetwork net) (b : Bank)
    (at : slice_get net.banks i ≡ Some b) (bank : i < length net.banks) where
  -- its cash and a sum together are within the limit
  pub sum_fits : (a : ℕ) → a ≤ due net i - cash_of net i → b.cash + a ≤ MAX_CASH
  sum_fits a g = omega (arith, fits net i a network bank g, cash_read net i b at)

  -- given them, a network that differs in its cash is the one with the sum
  pub set_to_sum : (more after : Net) (a : ℕ) → DifferInCash net more i
      → after ≡ with_cash more i (b.cash + a) → after ≡ added net i a
  set_to_sum more after a differ e =
      let cash : b.cash + a ≡ cash_of net i + a = omega (arith, cash_read net i b at) in
      e ∙ differ (b.cash + a) ∙ ap (with_cash net i) cash

module _ (net : Net) (i : ℕ) (network : IsNetwork net) where
  -- a search begins between the bound and what the bank owes above its cash
  pub begun_at_bound : (r : Range) → i < length net.banks → r.high ≡ missing net i
      → r.low ≡ bound net i → r.less.paid ≡ least (added net i (r.low - 1)) → HaveSums net r.less
      → r.short ≡ short_of net i r.low → r.enough.paid ≡ least (added net i r.high) → HaveSums net r.enough
      → IsRangeOf net i r
  begun_at_bound r bank high low less less_sums short enough enough_sums = record {
    within = omega (arith, high);
    order = omega (arith, high, low);
    saves = all_due_saves net i network bank r.high (omega (arith, high));
    fails = λ sum l saves.
        absurd (omega (arith, low, bound_is_below net i sum network bank saves));
    less = less;
    less_sums = less_sums;
    short = short;
    enough = enough;
    enough_sums = enough_sums;
  }

  -- so it begins where the bank, given all that is missing, receives so much, which tells the bound,
  -- and lacks so much where it is given one unit less than the bound
  pub range_begun : (r : Range) (received one_less lacking : ℕ) (full part : Net) (all some : List ℕ)
      → i < length net.banks → r.high ≡ missing net i
      → full ≡ added net i r.high → all ≡ least (added net i r.high)
      → received ≡ receipts full all i → r.low ≡ r.high - received → one_less ≡ r.low - 1
      → part ≡ added net i one_less → some ≡ least (added net i one_less)
      → lacking ≡ due part i - estate part some i → r.short ≡ cond (r.low == 0) 0 lacking
      → r.less.paid ≡ least (added net i one_less) → HaveSums net r.less
      → r.enough.paid ≡ least (added net i r.high) → HaveSums net r.enough
      → IsRangeOf net i r
  range_begun r received one_less lacking full part all some bank high is_full full_paid got low less
      is_part part_paid told short less_paid less_sums enough enough_sums =
      let bounded : received ≡ received_with net i (missing net i) =
      got ∙ (λ k. receipts (is_full k) (full_paid k) i) ∙ ap (received_with net i) high in
      let lacks_one : lacking ≡ lacks net i (r.low - 1) =
      told ∙ lacks_told net i part one_less some is_part (part_paid ∙ ap least (sym is_part))
      ∙ ap (lacks net i) less in
      begun_at_bound r bank high (omega (arith, low, high, bounded))
      (less_paid ∙ ap (λ (a : ℕ). least (added net i a)) less) less_sums
      (short ∙ ap (λ (n : ℕ). cond (r.low == 0) 0 n) lacks_one) enough enough_sums

  -- a sum of the range is tried, and saves the bank: no greater one is sought
  pub search_lower : (r : Range) (sum : ℕ) (paid : Payments) → IsRangeOf net i r → r.low ≤ sum
      → sum < r.high → lacks net i sum ≡ 0 → paid.paid ≡ least (added net i sum) → HaveSums net paid
      → IsRangeOf net i (record r { high = sum; enough = paid })
  search_lower r sum paid is g l none e sums = record {
    within = omega (arith, is.within);
    order = g;
    saves = enough_saves net i network sum (omega (arith, none));
    fails = is.fails;
    less = is.less;
    less_sums = is.less_sums;
    short = is.short;
    enough = e;
    enough_sums = sums;
  }

  -- it does not: a greater one is
  pub search_higher : (r : Range) (sum lacking reach : ℕ) (paid : Payments) → IsRangeOf net i r
      → sum < r.high → lacking ≡ lacks net i sum → 0 < lacking → paid.paid ≡ least (added net i sum)
      → HaveSums net paid → IsRangeOf net i (record r { low = sum + 1; less = paid; short = lacking; reach = reach })
  search_higher r sum lacking reach paid is l told some e sums =
      let one_less : sum + 1 - 1 ≡ sum = omega arith in
      record {
        within = is.within;
        order = omega arith;
        saves = is.saves;
        fails = λ b m. less_fails net i network sum b (omega arith)
            (λ saved. absurd (omega (arith, told, some, saves_enough net i network sum saved)));
        less = rw one_less e;
        less_sums = sums;
        short = rw one_less (grind (arith, nat_tests, told));
        enough = is.enough;
        enough_sums = is.enough_sums;
      }

  module _ (r : Range) (is : IsRangeOf net i r) (ends : r.high ≤ r.low) where
    -- where the range has one sum, that is the least which saves the bank
    pub search_ends : IsRescue net i r.low
    search_ends =
        let same : r.high ≡ r.low = omega (arith, is.order) in
        record { saves = subst (Saves net i) same is.saves; least = is.fails }

    -- and the sum of the definition
    pub found_is : i < length net.banks → r.low ≡ rescue net i
    found_is bank =
        rescue_only net i r.low (rescue net i) search_ends (rescue_is net i network bank).0

    -- what was lacking at last shows that a unit less does not save the bank
    pub short_found : 0 < r.low → 0 < r.short
    short_found p = omega (arith, is.short, short_above net i network r.low search_ends p)

    -- the payments with it are known
    pub paid_found : r.enough.paid ≡ least (added net i r.low)
    paid_found =
        let same : r.high ≡ r.low = omega (arith, is.order) in
        is.enough ∙ ap (λ (a : ℕ). least (added net i a)) same
