use Rattle.std.proofs.Common.{get_or, ap, sym, subst, ◌∙◌}
use Rattle.std.proofs.lemmas.List.{get_or_default}
use Rattle.cascade.specs.MoreCash.{IsOfOtherCash}
use Rattle.clear_core.specs.Clearing.{least}
use Rattle.clear_report.specs.Blocks.{scenario_block}
use Rattle.clear_report.specs.Text.{AreHeadsOf, payments_text}
use Rattle.settle.specs.Offices.{AreOffices}
use Rattle.clear_report.specs.Least.{defaults_report}
use Rattle.clear_stress.specs.Told.{block_of}
use Rattle.clear_stress.proofs.Begun.{heads_kept}
use Rattle.clear_stress.proofs.scenarios.ShocksPieceworkUnwrittenBlockCopied.piece.Goals as goal

-- the network that the scenario leaves differs from the copy in cash alone
pub settle_alone-requires : goal.settle_alone-requires
settle_alone-requires g c =
    let before = c.requires.desk.1.0 in
    let after = c.shock_again.ensures.alike in
    record {
      offices = record {
        other = c.args.desk.net;
        banks = after.0 ∙ sym before.0;
        debts = after.1 ∙ sym before.1;
        offices = c.requires.desk.1.1;
      };
    }

-- the network of the record is what the scenario leaves, and its lines begin as those of the network
pub returns-clause-piece : goal.returns-clause-piece
returns-clause-piece g c = λ d heads are.
    let w = c.args.self.now in
    let net = w.net.now in
    let first = c.index-self-place.result in
    let s = get_or w.scenarios.now c.args.place first in
    let sealed_is = c.net.ensures ∙ c.in_ok-paid.ensures.record_is.net_is in
    let kept = sym (heads_kept net c.shock_again.new.left c.shock_again.ensures.alike) in
    c.in_ok-waiting.ensures heads (subst (λ n. AreHeadsOf n heads) (sym sealed_is) (are ∙ kept))
    ∙ ap (λ n. scenario_block s.name (payments_text n (least n)) (defaults_report n)) (sealed_is ∙ c.shock_again.ensures.left)
    ∙ ap (block_of net) (get_or_default w.scenarios.now c.args.place first d c.requires.place)

pub returns-clause-desk : goal.returns-clause-desk
returns-clause-desk g c = λ low so_far.
    let w = c.args.self.now in
    let left_is = sym (c.into_net-net.ensures ∙ c.in_ok-paid.ensures.record_is.net_is) in
    let workers = w.engine.now.plan.workers in (
      subst (IsOfOtherCash w.net.now) left_is c.shock_again.ensures.alike,
      subst (λ n. AreOffices n workers workers c.settle_alone.new.offices.items) left_is c.in_ok-paid.ensures.offices,
    )
