-- What a run of settle comes to.
use Rattle.std.proofs.Common.{◌≡◌, ◌+◌, ◌≤◌, List, length, sum, All, ap, ◌∙◌, subst, arith}
use Rattle.std.proofs.lemmas.List.{length-append}
use Rattle.clr_net.specs.Limits.{IsNetwork}
use Rattle.clr_net.specs.Net.{Net}
use Rattle.clear_core.specs.Clearing.{least}
use Rattle.clear_core.specs.declared.event.Raise.{Raise}
use Rattle.raise_journal.proofs.Lawful.{lawful_pays_least}
use Rattle.pay_words.proofs.Lawful.{sum-least_le}
use Rattle.settle.specs.Runs.{IsSettled}
use Rattle.settle.specs.declared.plan.Plan.{Plan}
use Rattle.settle.specs.declared.runs.Settled.{Settled}
use Rattle.clear_top.specs.Runs.{IsRun}

-- what was settled, from whatever past, is a run
pub run_of : (net : Net) → IsNetwork net → (past : List Raise) (plan : Plan) (s : Settled) → IsSettled net past plan s
    → IsRun net s.sealed.journal s.rounds
run_of net network past plan s h =
    let few : s.rounds ≤ sum (least net) + 1 = omega (arith, h.bounds.rounds_in_bounds.few_rounds) in
    let journal : length s.sealed.journal ≡ length past + length h.record_is.raises =
    ap length h.record_is.journal_is ∙ length-append past h.record_is.raises in
    record {
      lawful = h.verdict;
      replays = lawful_pays_least net s.sealed.journal network h.verdict;
      traced = h.lawful.1;
      in_order = h.in_order;
      low_stamps = subst (λ P. All (λ r. r.stamp ≤ sum P) s.sealed.journal) h.paid h.low_stamps;
      in_limits = h.within_limits;
      can_go_on = h.can_go_on;
      some_round = h.bounds.rounds_in_bounds.some_round;
      few_rounds = omega (arith, few, sum-least_le net);
      rounds_by_units_paid = few;
      rounds_by_raises = omega (arith, h.bounds.rounds_by_raises, h.record_is.made, journal);
    }
