use Rattle.std.proofs.Common.{sym, subst}
use Rattle.rule_unit.specs.Awards.{IsWithin}
use Rattle.rule_class.proofs.Turn.{cleared_within}
use Rattle.rule_class.proofs.division.one_class.Goals as goal

pub award_more-requires-clause-within : goal.award_more-requires-clause-within
award_more-requires-clause-within g c =
    subst (IsWithin c.args.claims.now) (sym c.clear_class.ensures)
    (cleared_within c.args.class c.args.claims.now c.args.into.now c.args.classes.now c.requires.first c.requires.within)
