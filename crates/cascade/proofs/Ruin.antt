-- The ruin of a bank costs its cash, no more and no less.
use Rattle.std.proofs.Common.{ℕ, ◌+◌, ◌<◌, length, refl, subst, arith, zero-le}
use Rattle.clr_net.specs.Limits.{IsNetwork}
use Rattle.clr_net.specs.Net.{Net, cash_of}
use Rattle.clear_core.specs.Clearing.{least}
use Rattle.clear_core.proofs.Least.{least_clears}
use Rattle.cascade.specs.MoreCash.{NobodyLoses}
use Rattle.cascade.specs.Ruin.{hit, kept_less, CostsItsCash}
use Rattle.cascade.specs.Standings.{bank_numbers, kept}
use Rattle.cascade.proofs.CashAt.{cash_at, has_more_cash, own_cash, length-with_cash, all_cash_changes}
use Rattle.cascade.proofs.MoreCash.{nobody_loses, all_kept_is}
use Rattle.cascade.proofs.Sums.{sum_by-add, sum_by_same}

module _ (net : Net) (i : ℕ) (network : IsNetwork net) where
  -- nobody gains by it
  nobody_gains_by : NobodyLoses (hit net i) net
  nobody_gains_by =
      let cash = cash_of net i in
      subst (NobodyLoses (hit net i)) (own_cash net i cash refl)
      (nobody_loses net (cash_at net.banks i 0) (cash_at net.banks i cash)
      (has_more_cash net i 0 cash zero-le) network)

  -- and since all that banks keep is all cash, they keep as much less as was lost
  pub costs_its_cash : i < length net.banks → CostsItsCash net i
  costs_its_cash l =
      let left = kept (hit net i) (least (hit net i)) in
      let numbers = bank_numbers net in
      record {
        nobody_gains = nobody_gains_by;
        all = omega (
          arith,
          sum_by-add (kept_less net i) left numbers,
          sum_by_same (λ j. kept_less net i j + left j) (kept net (least net)) numbers
              (λ j. omega (arith, nobody_gains_by.keeps j)),
          all_kept_is net network (cash_at net.banks i 0) (least (hit net i))
              (least_clears (hit net i)) (length-with_cash net i 0),
          all_kept_is net network net.banks (least net) (least_clears net) refl,
          all_cash_changes net i 0 l,
        );
      }
