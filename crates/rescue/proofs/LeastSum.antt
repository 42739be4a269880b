-- A sum that saves a bank: there is a least one, and every greater sum saves it too.
use Rattle.std.proofs.Common.{◌≡◌, ℕ, ◌+◌, ◌-◌, ◌<◌, ◌≤◌, Option, Some, None, find, min, length, sym, ap, ◌∙◌, arith}
use Rattle.std.specs.List.{range_with_len}
use Rattle.std.specs.Option.{option_map_or}
use Rattle.std.proofs.lemmas.Bool.Decides.{nat_tests}
use Rattle.std.proofs.lemmas.Bool.{true≢false}
use Rattle.clr_net.specs.Limits.{IsNetwork}
use Rattle.clr_net.specs.Net.{Net, cash_of}
use Rattle.clr_net.proofs.Ranges.{Found, found}
use Rattle.clear_core.specs.Clearing.{receipts, estate, spend, least}
use Rattle.clear_core.proofs.Least.{least_clears}
use Rattle.cascade.specs.Standings.{due, is_sound, paid_by, owed_by}
use Rattle.cascade.proofs.Healths.{sound_enough, enough_sound, sound_told}
use Rattle.rescue.specs.Rescue.{added, health_with, is_saved_by, Saves, IsRescue, rescue, short_of}
use Rattle.cascade.proofs.CashAt.{cash_at, outside_stays}
use Rattle.cascade.proofs.MoreCash.{nobody_loses, pays_where_clearing}
use Rattle.rescue.proofs.MoreCash.{cash_added, more_by_more}

-- what the bank has with a units more cash, under the least payments that clear then
abbrev estate_with : Net → ℕ → ℕ → ℕ
estate_with net i a = estate (added net i a) (least (added net i a)) i

module _ (net : Net) (i : ℕ) (network : IsNetwork net) where
  -- whatever the sum, the bank pays all that it divides, up to what it owes
  pub pays_with : (a : ℕ) → paid_by (added net i a) (least (added net i a)) i
      ≡ min (spend (added net i a) i (receipts net (least (added net i a)) i)) (owed_by net i)
  pays_with a = pays_where_clearing net network (cash_at net.banks i (cash_of net i + a))
      (least (added net i a)) (least_clears (added net i a)) i

  -- a sum saves the bank exactly where it then has all that it owes
  pub saves_enough : (a : ℕ) → Saves net i a → due net i ≤ estate_with net i a
  saves_enough a s =
      let enough = sound_enough (added net i a) (least (added net i a)) i (pays_with a) s in
      omega (arith, outside_stays net i (cash_of net i + a) i)

  -- and the other way
  pub enough_saves : (a : ℕ) → due net i ≤ estate_with net i a → Saves net i a
  enough_saves a l = enough_sound (added net i a) (least (added net i a)) i (pays_with a)
      (omega (arith, outside_stays net i (cash_of net i + a) i))

  -- so a greater sum saves it too
  pub more_saves : (a b : ℕ) → a ≤ b → Saves net i a → Saves net i b
  more_saves a b l s =
      let more = nobody_loses net (cash_at net.banks i (cash_of net i + a))
      (cash_at net.banks i (cash_of net i + b)) (more_by_more net i a b l) network in
      more.sound i s

  -- and where a sum does not, no smaller one does
  pub less_fails : (a b : ℕ) → b ≤ a → ¬ (Saves net i a) → ¬ (Saves net i b)
  less_fails a b l f s = f (more_saves b a l s)

  -- what the bank owes above its cash is enough
  pub all_due_saves : i < length net.banks → (a : ℕ) → due net i ≤ cash_of net i + a → Saves net i a
  all_due_saves l a g = enough_saves a (omega (arith, cash_added net i a l))

  -- the first sum that saves it, of those up to one that does
  rescue_found : (n : ℕ) (r : Option ℕ) → Saves net i n → Found (is_saved_by net i) (n + 1) r
      → IsRescue net i (option_map_or (λ a. a) r 0) × (option_map_or (λ a. a) r 0 ≤ n)
  rescue_found n None s f = absurd (true≢false (sym (ap is_sound s) ∙ f n (omega arith)))
  rescue_found n (Some a) s f = (
    record {
      saves = sound_told (health_with net i a) f.1;
      least = λ b l saved. true≢false (sym (ap is_sound saved) ∙ f.2 b l);
    },
    omega (arith, f.0),
  )

  -- so the sum of the definition is the least, and within what is owed
  pub rescue_is : i < length net.banks
      → IsRescue net i (rescue net i) × (rescue net i ≤ due net i - cash_of net i)
  rescue_is l =
      let n = due net i - cash_of net i in
      rescue_found n (find (is_saved_by net i) (range_with_len 0 (n + 1)))
      (all_due_saves l n (omega arith)) (found (is_saved_by net i) (n + 1))

  -- with one unit less than the least sum something is lacking
  pub short_above : (a : ℕ) → IsRescue net i a → 0 < a → 0 < short_of net i a
  short_above a r p = grind (arith, nat_tests, r.least (a - 1), enough_saves (a - 1))

-- there is one least sum
pub rescue_only : (net : Net) (i a b : ℕ) → IsRescue net i a → IsRescue net i b → a ≡ b
rescue_only net i a b r s = grind (arith, r.saves, s.saves, r.least b, s.least a)
