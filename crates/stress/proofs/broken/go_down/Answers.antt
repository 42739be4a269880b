use Rattle.std.proofs.Common.{◌≡◌, ℕ, ◌-◌, List, [], length, map, sym, ap, ◌∙◌, subst, arith}
use Rattle.clr_net.specs.Net.{Net, of_cash}
use Rattle.clear_core.specs.Buffers.{HasRoom}
use Rattle.clear_core.specs.Clearing.{Clears, least}
use Rattle.clear_core.proofs.Least.{least_clears}
use Rattle.cascade.specs.MoreCash.{IsOfOtherCash}
use Rattle.cascade.specs.Standings.{bank_numbers}
use Rattle.stress.specs.Breaking.{breaking_within}
use Rattle.stress.proofs.Descent.{IsDown, as_many_known, none_tried, one_down, swept_down}
use Rattle.stress.proofs.Kept.{alike_after, length-shocked_from}
use Rattle.clear_core.proofs.WrittenRows.{written_back}
use Rattle.cascade.proofs.OtherCash.{sums_alike, sums_back}
use Rattle.stress.specs.Shocks.{after_shock}
use Rattle.stress.proofs.broken.go_down.Goals as goal

pub loop-step-init : goal.loop-step-init
loop-step-init c =
    let net = c.args.net.now in
    let high = c.args.high in
    let paid = c.args.room.now.payments.paid in
    let all = c.args.all.now in
    let same : high ≡ high - 0 = omega arith in
    record {
      down = subst (λ k. IsDown net high k paid all) same
          (none_tried net high paid all c.requires.paid c.requires.unbroken);
      sums = c.requires.sums;
      alike = (ap (λ (m : Net). map (of_cash 0) m.banks) c.requires.left, ap (λ (m : Net). m.debts) c.requires.left);
      room = c.requires.scratch;
      marked = c.requires.marks;
    }

pub least_again-requires-clause-network : goal.least_again-requires-clause-network
least_again-requires-clause-network c = c.banks.ensures.network

pub least_again-requires-clause-swept : goal.least_again-requires-clause-swept
least_again-requires-clause-swept c =
    let high = c.args.high in
    rw c.cut_cash.ensures.left
    (swept_down c.args.net.now c.cut_cash.ensures.network high (high - c.loop-step.step - 1)
    (omega arith) c.requires.high _ _ _ (omega arith) c.loop-step.invariant.down _
    (c.as_mut_slice-in-loop-step.ensures.value
    ∙ written_back c.loop-step.room.marks.len c.mark_broken.new.marks _ (omega arith)
    ∙ c.mark_broken.ensures))

pub least_again-requires-clause-room : goal.least_again-requires-clause-room
least_again-requires-clause-room c =
    subst (λ (m : Net). HasRoom m c.loop-step.room.scratch)
    (sym c.cut_cash.ensures.left) c.loop-step.invariant.room

pub least_again-requires-clause-sums : goal.least_again-requires-clause-sums
least_again-requires-clause-sums c =
    let net = c.args.net.now in
    let all = c.loop-step.room.payments in
    let cut = c.args.high - c.loop-step.step - 1 in
    rw c.cut_cash.ensures.left
    (sums_alike net (after_shock cut [] net) all.paid all.sums.items (alike_after net cut []) c.loop-step.invariant.sums)

pub note-requires-clause-clears : goal.note-requires-clause-clears
note-requires-clause-clears c =
    let left = c.cut_cash.new.left in
    subst (λ (P : List ℕ). Clears left P) (sym c.least_again.ensures.payments) (least_clears left)

pub note-requires-clause-banks : goal.note-requires-clause-banks
note-requires-clause-banks c =
    let net = c.args.net.now in
    let high = c.args.high in
    let cut = high - c.loop-step.step - 1 in
    as_many_known net c.cut_cash.ensures.network high cut (omega arith) c.requires.high _ _ _
    (omega arith) c.loop-step.invariant.down
    ∙ sym (length-shocked_from cut 0 [] net.banks)
    ∙ ap (λ (m : Net). length m.banks) (sym c.cut_cash.ensures.left)

pub loop-step-preserved : goal.loop-step-preserved
loop-step-preserved c =
    let net = c.args.net.now in
    let high = c.args.high in
    let cut = high - c.loop-step.step - 1 in
    let left = c.cut_cash.ensures.left in
    record {
      down = one_down net c.cut_cash.ensures.network high cut (omega arith) c.requires.high _ _ _
          (omega arith) c.loop-step.invariant.down _ _ _ (omega arith)
          (c.least_again.ensures.payments ∙ ap least left)
          c.note.auto.all
          (λ i none l. rw left at (c.note.ensures i none l));
      sums = sums_back net c.cut_cash.new.left c.least_again.new.payments.paid c.least_again.new.payments.sums.items
          (subst (IsOfOtherCash net) (sym left) (alike_after net cut []))
          c.least_again.ensures.sums;
      alike = subst (IsOfOtherCash net) (sym left) (alike_after net cut []);
      room = λ i. omega (arith, c.loop-step.invariant.room i, c.least_again.ensures.room);
      marked = ap length (written_back c.loop-step.room.marks.len c.least_again.new.marks _ (omega arith))
          ∙ omega arith;
    }

pub returns : goal.returns
returns c =
    let net = c.args.net.now in
    let high = c.args.high in
    let last : high - c.loop-step.step ≡ c.args.low = omega arith in
    subst (λ k. c.loop-step.all ≡ map (breaking_within k high net) (bank_numbers net)) last
    c.loop-step.invariant.down.noted
