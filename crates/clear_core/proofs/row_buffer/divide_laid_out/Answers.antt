use Rattle.std.proofs.Common.{◌≤◌, All, sum, sym, ap, subst, arith}
use Rattle.clr_net.specs.declared.TheConstants.{MAX_CLAIM, MAX_CLASS}
use Rattle.clr_net.specs.Division.{AreClasses}
use Rattle.clr_net.proofs.RowsAndColumns.{sum-claims_of_le, classes_of_are}
use Rattle.clear_core.proofs.Rows.{claims_in_limit}
use Rattle.clear_core.proofs.row_buffer.divide_laid_out.Goals as goal

pub share_by_level-requires-clause-limit : goal.share_by_level-requires-clause-limit
share_by_level-requires-clause-limit c =
    subst (λ claims. All (λ claim. claim ≤ MAX_CLAIM) claims) (sym c.requires.claims)
    (claims_in_limit c.args.net.now c.args.bank.0 c.requires.network)

pub share_by_level-requires-clause-total : goal.share_by_level-requires-clause-total
share_by_level-requires-clause-total c =
    omega (arith, ap sum c.requires.claims, sum-claims_of_le c.args.net.now c.args.bank.0, c.requires.network.owed_in_limit)

pub share_by_level-requires-clause-classed : goal.share_by_level-requires-clause-classed
share_by_level-requires-clause-classed c =
    subst (λ classes. AreClasses classes 1 MAX_CLASS) (sym c.requires.classes)
    (classes_of_are c.args.net.now c.args.bank.0 c.requires.network)
