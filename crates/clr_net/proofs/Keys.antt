-- The keys of a row or a column tell whether a debt of a debtor, a creditor and a class is there.
use Rattle.std.proofs.Common.{◌≡◌, ℕ, suc, ◌<◌, ◌==◌, ◌||◌, Bool, List, [], ◌∷◌, All, get_or, map, refl, ap₂, ◌∙◌, arith}
use Rattle.std.specs.List.{list_any}
use Rattle.std.proofs.lemmas.Bool.Decides.{nat_tests}
use Rattle.std.proofs.lemmas.Option.{slice_get-get_or}
use Rattle.clr_net.specs.declared.debt.Debt.{Debt}
use Rattle.clr_net.specs.Keys.{key, row_key, column_key, row_keys, column_keys}
use Rattle.clr_net.specs.Samples.{classed}
use Rattle.clr_net.specs.Limits.{IsNetwork}
use Rattle.clr_net.specs.Net.{Net, is_debt_of, is_of_kind}
use Rattle.clr_net.proofs.RowsAndColumns.{read, debts_of, each_in_range, each_of_bank}
use Rattle.clr_net.proofs.OfKind.{row_tells, column_tells}

-- a test of what f makes of a list's items is one of the items
any_through : {X Y : Type 0} (f : X → Y) (q : Y → Bool) (p : X → Bool) (xs : List X) → All (λ x. q (f x) ≡ p x) xs
    → list_any q (map f xs) ≡ list_any p xs
any_through f q p [] same = refl
any_through f q p (x ∷ xs) same =
    ap₂ (λ a b. a || b) (same 0 x (omega arith)) (any_through f q p xs (λ k d l. same (suc k) d (omega arith)))

module _ (net : Net) (network : IsNetwork net) (debtor creditor class : ℕ) (l : class < 256) where
  -- what is read of the debts of a bank, tested as the debts are
  keys_tell : (f g : Debt → ℕ) (sought i : ℕ)
      → ((d : Debt) → d.class < 256 → g d ≡ i → (f d == sought) ≡ is_debt_of debtor creditor class
      d)
      → list_any (λ k. k == sought) (map (read f net) (debts_of g net i))
      ≡ list_any (is_of_kind net debtor creditor class) (debts_of g net i)
  keys_tell f g sought i tells =
      any_through (read f net) (λ k. k == sought) (is_of_kind net debtor creditor class)
      (debts_of g net i) (λ k d m.
      let x = get_or (debts_of g net i) k d in
      let within = each_in_range g net i k d m in
      let at = slice_get-get_or net.debts x (classed 0 0 0 0) within in
      let bound = rw at at (network.each_debt x within).class_in_limit in
      rw at (tells (get_or net.debts x (classed 0 0 0 0)) (omega arith)
      (rw at at (each_of_bank g net i k d m))))

  -- the keys of the debtor's row tell
  pub row_keys_tell : list_any (λ k. k == key creditor class) (row_keys net debtor) ≡ list_any (is_debt_of debtor creditor class) net.debts
  row_keys_tell =
      keys_tell row_key (λ d. d.debtor.0) (key creditor class) debtor
      (λ d m e. grind (arith, nat_tests))
      ∙ row_tells net debtor creditor class

  -- and so do the keys of the creditor's column
  pub column_keys_tell : list_any (λ k. k == key debtor class) (column_keys net creditor) ≡ list_any (is_debt_of debtor creditor class) net.debts
  column_keys_tell =
      keys_tell column_key (λ d. d.creditor.0) (key debtor class) creditor
      (λ d m e. grind (arith, nat_tests))
      ∙ column_tells net debtor creditor class
