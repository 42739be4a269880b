-- A network after a cut and the first losses: what one loss more takes.
use Rattle.std.proofs.Common.{◌≡◌, ◌≢◌, ℕ, ◌+◌, ◌-◌, ◌<◌, ◌≤◌, ◌==◌, true, false, cond, List, [], ◌∷◌, ◌++◌, length, take, get_or, slice_get, Some, true≢false, refl, sym, ap, ◌∙◌, ⊎_elim, arith, eq-eqb}
use Rattle.std.specs.List.{All, AllPairs, list_any}
use Rattle.std.proofs.lemmas.Bool.{cases_Bool, cond-true, ne_eqb}
use Rattle.std.proofs.lemmas.List.{append-nil, get_or-take, length-take-le, take_more}
use Rattle.std.proofs.lemmas.List.Elements.{All-from_get_or, All-same}
use Rattle.std.proofs.lemmas.List.Folds.{list_any_none}
use Rattle.clr_net.specs.declared.TheConstants.{MAX_CASH}
use Rattle.clr_net.specs.declared.bank.Bank.{Bank}
use Rattle.clr_net.specs.Limits.{IsNetwork}
use Rattle.clr_net.specs.Net.{Net, cash_of, with_cash}
use Rattle.cascade.proofs.CashAt.{cash_is_set, cash_read, cash_stays}
use Rattle.stress.specs.Shocks.{after_shock, is_of_bank, loss_of}
use Rattle.stress.specs.declared.scenario.Loss.{Loss}
use Rattle.cascade.proofs.OtherCash.{alike_set}
use Rattle.stress.proofs.Kept.{alike_after, is_shocked, length-shocked_from, shocked_cash}

-- losses of which none is of a bank do not count for it
loss_of-skip : (losses rest : List Loss) (i : ℕ) → list_any (is_of_bank i) losses ≡ false
    → loss_of (losses ++ rest) i ≡ loss_of rest i
loss_of-skip [] rest i none = refl
loss_of-skip (m ∷ losses) rest i none = ⊎_elim
    (λ (e : is_of_bank i m ≡ true). absurd (true≢false (sym (rw e refl) ∙ none)))
    (λ (e : is_of_bank i m ≡ false). rw e (loss_of-skip losses rest i (rw e at none)))
    (cases_Bool (is_of_bank i m))

-- and a loss at the end counts for no other bank
loss_of-other : (losses : List Loss) (l : Loss) (i : ℕ) → l.bank.0 ≢ i
    → loss_of (losses ++ l ∷ []) i ≡ loss_of losses i
loss_of-other [] l i ne = rw (ne_eqb l.bank.0 i ne) refl
loss_of-other (m ∷ losses) l i ne =
    ap (cond (is_of_bank i m) m.amount) (loss_of-other losses l i ne)

-- a loss of a bank that none before it is of is taken from this bank
one_loss : (net : Net) (cut : ℕ) (losses : List Loss) (l : Loss) (c : ℕ)
    → list_any (is_of_bank l.bank.0) losses ≡ false → l.bank.0 < length net.banks
    → c ≡ cash_of (after_shock cut losses net) l.bank.0 - l.amount
    → with_cash (after_shock cut losses net) l.bank.0 c ≡ after_shock cut (losses ++ l ∷ []) net
one_loss net cut losses l c new known is =
    let left = after_shock cut losses net in
    let b = l.bank.0 in
    let before : loss_of losses b ≡ 0 =
    ap (λ ls. loss_of ls b) (sym (append-nil losses)) ∙ loss_of-skip losses [] b new in
    let after : loss_of (losses ++ l ∷ []) b ≡ l.amount =
    loss_of-skip losses (l ∷ []) b new ∙ cond-true (b == b) l.amount 0 (eq-eqb b b refl) in
    let given = cash_is_set left b c (omega (arith, length-shocked_from cut 0 losses net.banks)) in
    is_shocked net (with_cash left b c) cut (losses ++ l ∷ [])
    (alike_set net left b c (alike_after net cut losses)) (λ i m. grind (
      arith,
      given,
      is,
      shocked_cash net cut losses b,
      before,
      after,
      cash_stays left b c i,
      shocked_cash net cut losses i,
      loss_of-other losses l i,
    ))

-- no loss before this one is of its bank
new_bank : (losses : List Loss) (k : ℕ) (d : Loss) → k < length losses
    → AllPairs (λ l m. l.bank.0 ≢ m.bank.0) losses
    → list_any (is_of_bank (get_or losses k d).bank.0) (take k losses) ≡ false
new_bank losses k d l apart =
    let b = (get_or losses k d).bank.0 in
    list_any_none (is_of_bank b) (take k losses)
    (All-from_get_or (λ m. is_of_bank b m ≡ false) (take k losses) d (λ j m.
    let before : j < k = omega (arith, length-take-le k losses (omega arith)) in
    rw (get_or-take k losses j d before) (ne_eqb (get_or losses j d).bank.0 b (apart j k d before l))))

-- the next loss, as the code reads it: it is of a bank of the network
module _ (net now : Net) (cut k : ℕ) (losses items : List Loss) (d : Loss)
    (so_far : now ≡ after_shock cut (take k losses) net) (same : items ≡ losses)
    (in_items : k < length items)
    (known : All (λ l. l.bank.0 < length net.banks) losses) where
  -- the loss in this place
  abbrev l : Loss
  l = get_or items k d

  -- the bank that it is of is known
  next_known : l.bank.0 < length net.banks
  next_known = All-same (λ l. l.bank.0 < length net.banks) items losses same known k d in_items

  -- which is there still
  pub next_there : l.bank.0 < length now.banks
  next_there = omega (
    arith,
    next_known,
    ap (λ (m : Net). length m.banks) so_far,
    length-shocked_from cut 0 (take k losses) net.banks,
  )

  module _ (b : Bank) (at : slice_get now.banks l.bank.0 ≡ Some b) where
    -- has no more than the limit
    pub in_limit : IsNetwork net → b.cash ≤ MAX_CASH
    in_limit network =
        let left = ap (λ (m : Net). cash_of m l.bank.0) so_far in
        let shocked = shocked_cash net cut (take k losses) l.bank.0 in
        let bank = network.each_bank l.bank.0 next_known in
        omega (arith, cash_read now l.bank.0 b at, bank.cash_in_limit)

    -- and the loss is taken from it
    pub one_loss_taken : (cash : ℕ) → AllPairs (λ l m. l.bank.0 ≢ m.bank.0) losses
        → cash ≡ b.cash - l.amount
        → with_cash now l.bank.0 cash ≡ after_shock cut (take (k + 1) losses) net
    one_loss_taken cash apart is =
        let here : k < length losses = omega (arith, ap length same) in
        let next : take k losses ++ l ∷ [] ≡ take (k + 1) losses =
        ap (λ (ls : List Loss). take k losses ++ get_or ls k d ∷ []) same
        ∙ sym (take_more losses k d here) in
        let new : list_any (is_of_bank l.bank.0) (take k losses) ≡ false =
        rw same (new_bank losses k d here apart) in
        ap (λ (m : Net). with_cash m l.bank.0 cash) so_far
        ∙ one_loss net cut (take k losses) l cash new next_known (omega (
          arith,
          is,
          cash_read now l.bank.0 b at,
          ap (λ (m : Net). cash_of m l.bank.0) so_far,
        ))
        ∙ ap (λ ls. after_shock cut ls net) next
