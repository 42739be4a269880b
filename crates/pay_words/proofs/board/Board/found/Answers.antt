use Rattle.std.proofs.Common.{◌≡◌, ℕ, ◌∙◌, List, [], ◌∷◌, length, ap, sym, subst, arith}
use Rattle.atomic_table.specs.Table.{Me}
use Rattle.clr_net.specs.Net.{Net}
use Rattle.pay_words.specs.declared.origin.Origin.{Origin}
use Rattle.pay_words.specs.declared.view.View.{View}
use Rattle.pay_words.specs.BoardRule.{MeetsRule, opening_view}
use Rattle.pay_words.specs.Making.{AreOpening}
use Rattle.pay_words.specs.Positions.{ArePositions}
use Rattle.pay_words.specs.Memory.{IsInMemory, IsLaidOut, seat_memory}
use Rattle.pay_words.proofs.Openings.{clock_of_none, opens_past, start_fits, start_values_fit, kept_opening}
use Rattle.pay_words.proofs.Pasts.{start_over}
use Rattle.pay_words.proofs.board.Board.found.Goals as goal

pub opening_words-requires-clause-start : goal.opening_words-requires-clause-start
opening_words-requires-clause-start g c = start_over _ _ _ c.requires.belongs

pub opening_words-requires-clause-fit : goal.opening_words-requires-clause-fit
opening_words-requires-clause-fit g c = start_fits (record { net = c.args.net.now; past = c.args.past.now }) _ c.debts-debts.ensures.network c.requires.belongs

pub of_each-requires : goal.of_each-requires
of_each-requires g c = start_values_fit (record { net = c.args.net.now; past = c.args.past.now }) _ c.debts-debts.ensures.network c.requires.belongs

pub opening_clock-requires : goal.opening_clock-requires
opening_clock-requires g c = clock_of_none c.args.net.now c.args.start.now c.args.past.now c.requires.belongs

pub of_words-requires : goal.of_words-requires
of_words-requires g c =
    let origin : Origin = record { net = c.args.net.now; past = c.args.past.now } in
    let is : c.in_ok-origin.origin.me.0 ≡ origin = c.in_ok-origin.ensures ∙ c.requires.origin in
    let opening : AreOpening c.args.net.now c.args.start.now c.as_slice.result.now =
    subst (AreOpening c.args.net.now c.args.start.now) (sym c.as_slice.ensures.value) c.in_ok-words.ensures in
    subst (λ (y : Origin). MeetsRule y c.as_slice.result.now (opening_view y ∷ [])) (sym is)
    (opens_past origin _ c.debts-debts.ensures.network c.requires.belongs _ opening)

pub invariant_of-board : goal.invariant_of-board
invariant_of-board g c =
    let made = c.in_ok-table.ensures in
    let is = c.in_ok-origin.ensures ∙ c.requires.origin in
    let net : c.in_ok-table.table.shared.key.me.0.net ≡ c.args.net.now = ap (λ (s : Rattle.atomic_table.specs.declared.shared.Seat.Seat (Unit {0}) Origin). s.me.0.net) made.5 ∙ ap (λ (d : Origin). d.net) is in
    let size = c.in_ok-words.ensures.size in (
      subst (λ (n : Net). IsLaidOut n c.in_ok-table.table.shared.table_id.words c.in_ok-table.table.shared.table_id.slots c.debts-debts.result c.args.workers) (sym net) (record {
        network = c.debts-debts.ensures.network;
        words_are = omega (arith, made.0, ap length c.as_slice.ensures.value, size);
        no_slots = made.1;
        debts_are = c.debts-debts.ensures.debts;
        some_workers = omega (arith, c.requires.workers);
      }),
      ap length (sym (ap (λ (s : Rattle.atomic_table.specs.declared.shared.Seat.Seat (Unit {0}) Origin). s.me.0.past) made.5 ∙ ap (λ (d : Origin). d.past) is)),
      subst (λ (n : Net). ArePositions n c.in_ok-positions.positions) (sym net) c.in_ok-positions.ensures,
    )

pub invariant_of-master : goal.invariant_of-master
invariant_of-master g c =
    let made = c.in_ok-table.ensures in
    let origin : Origin = record { net = c.args.net.now; past = c.args.past.now } in
    let is : c.in_ok-origin.origin.me.0 ≡ origin = c.in_ok-origin.ensures ∙ c.requires.origin in
    let me : c.in_ok-table.seat.me ≡ (opening_view origin, []) = made.4 ∙ ap (λ (d : Origin). (opening_view d, [])) is in
    let kept = kept_opening origin _ c.debts-debts.ensures.network c.requires.belongs c.opening_clock.result c.args.workers _ c.in_ok-debtors.ensures c.opening_clock.ensures (omega (arith, c.requires.workers)) in (
      ap (λ (m : Me (Unit {0}) View). m.1) me,
      subst (λ (y : Me (Unit {0}) View × List ℕ × List (List ℕ)). IsInMemory y.0.0 (seat_memory y.1 y.2 c.in_ok-debtors.debtors.items c.args.workers 0) c.opening_clock.result 0)
          (λ i. (sym me i, sym c.none.ensures i, sym c.in_ok-lists.ensures i)) kept,
    )
