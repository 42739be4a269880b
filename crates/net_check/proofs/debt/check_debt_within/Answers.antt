use Rattle.std.proofs.Common.{ℕ, List, [], ◌∷◌, map, rules}
use Rattle.net_check.specs.Field.{trimmed_field}
use Rattle.net_check.specs.Record.{debt_from}
use Rattle.net_check.specs.declared.fault.FileKind.TheVariants as file
use Rattle.net_check.proofs.Additions.{debt_from-ok, debt_in_row-keeps}
use Rattle.net_check.proofs.debt.check_debt_within.Goals as goal

pub returns-clause-new : goal.returns-clause-new
returns-clause-new c =
    let said : List (List ℕ) = map trimmed_field
    (c.args.debtor.now ∷ c.args.creditor.now ∷ c.args.class.now ∷ c.args.claim.now ∷ []) in
    debt_in_row-keeps _ (debt_from c.args.by c.args.net.now said)
    (λ d h. (debt_from-ok c.args.by c.args.net.now said d h c.requires).0)
    file.Debts c.args.row c.map_err.result (search rules)

pub returns-clause-within : goal.returns-clause-within
returns-clause-within c =
    let said : List (List ℕ) = map trimmed_field
    (c.args.debtor.now ∷ c.args.creditor.now ∷ c.args.class.now ∷ c.args.claim.now ∷ []) in
    debt_in_row-keeps _ (debt_from c.args.by c.args.net.now said)
    (λ d h. (debt_from-ok c.args.by c.args.net.now said d h c.requires).1)
    file.Debts c.args.row c.map_err.result (search rules)
