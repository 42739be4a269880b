use Rattle.std.proofs.Common.{◌≡◌, ℕ, ◌+◌, ◌<◌, ◌∙◌, List, [], length, set, ap, refl, sym, subst, rules, arith}
use Rattle.std.proofs.lemmas.List.{get_or_read}
use Rattle.atomic_table.specs.Table.{Me}
use Rattle.pay_words.specs.declared.view.View.{View}
use Rattle.pay_words.specs.Memory.{IsInMemory, seat_memory}
use Rattle.pay_words.specs.Steps.{part_of, rest_of}
use Rattle.pay_words.specs.Views.{BoardView, SeatView}
use Rattle.pay_words.proofs.Rolls.{rolls}
use Rattle.pay_words.proofs.Splits.{MayHand, splits}
use Rattle.pay_words.proofs.Seats.{as_many, kept_rolled, kept_handed, kept_without, may_hand, holds_within}
use Rattle.pay_words.proofs.board.Board.hand_out.Goals as goal

pub store-requires : goal.store-requires
store-requires g c =
    let h = c.master.invariant.1 in
    (search rules, omega (arith, c.self.invariant.0.words_are), rolls _ _ _ _ _ h.live (ap (λ (s : SeatView). s.shows.master) c.master.view_is ∙ c.requires.may_hand.is_the_master) (omega (arith, h.seats_are)))

pub split_seat-seat-requires : goal.split_seat-seat-requires
split_seat-seat-requires g c =
    let h = c.master.invariant.1 in
    let all = holds_within _ _ _ _ _ _ c.master.view_is c.requires.chosen.0 c.requires.chosen.1 c.requires.may_hand.banks in
    let may = may_hand c.master.inside.seat.me.0 (c.master.inside.seats + 2) _ _ h.live (ap (λ (s : SeatView). s.shows.master) c.master.view_is ∙ c.requires.may_hand.is_the_master) all (omega (arith, h.seats_are)) in
    (search rules, omega (arith, c.self.invariant.0.words_are), splits _ _ _ _ _ (subst (λ (m : Me (Unit {0}) View). MayHand g.C.Chosen.workers g.C.Chosen.worker m.0) (sym c.store.ensures.2) may))

pub index_mut-requires : goal.index_mut-requires
index_mut-requires g c =
    let all = (c.master.invariant.1.at_master (ap (λ (s : SeatView). s.shows.master) c.master.view_is ∙ c.requires.may_hand.is_the_master)).lists in
    omega (arith, all, as_many _ _ _ c.master.view_is c.requires.may_hand.at.0, c.requires.may_hand.known, c.master.inside.lists.ok.0)

pub invariant_of-result : goal.invariant_of-result
invariant_of-result g c =
    let v = c.master.inside.seat.me.0 in
    let n = c.master.inside.seats + 2 in
    let lists = c.master.inside.lists.items in
    let chief = ap (λ (s : SeatView). s.shows.master) c.master.view_is ∙ c.requires.may_hand.is_the_master in
    let named = as_many _ _ _ c.master.view_is c.requires.may_hand.at.0 in
    let own = named ∙ sym (ap (λ (p : BoardView). p.table.workers) c.self.view_is) in
    let all = holds_within _ _ c.master.inside.workers _ c.args.worker c.args.worker c.master.view_is named refl c.requires.may_hand.banks in
    let low : c.args.worker < c.master.inside.workers = omega (arith, named, c.requires.may_hand.known) in
    let here = kept_handed c.args.worker _ _ _ _ (kept_rolled _ _ _ _ n c.master.invariant.1) chief low all in
    let view : part_of c.master.inside.workers c.args.worker (record v { rolled = n }) ≡ c.split_seat-seat.result.me.0 =
    ap (λ (k : ℕ × ℕ). part_of k.0 k.1 (record v { rolled = n })) (λ i. (sym (c.requires.chosen.0 ∙ sym named) i, sym c.requires.chosen.1 i))
    ∙ ap (λ (m : Me (Unit {0}) View). part_of g.C.Chosen.workers g.C.Chosen.worker m.0) (sym c.store.ensures.2)
    ∙ ap (λ (m : Me (Unit {0}) View). m.0) (sym c.split_seat-seat.ensures.4) in
    let there : c.args.worker < length lists = omega (arith, low, (c.master.invariant.1.at_master chief).lists) in
    let list = sym (c.replace-own.ensures.value ∙ get_or_read lists c.args.worker _ there c.index_mut.ensures.value []) in (
      ap (λ (m : Me (Unit {0}) View). m.1) c.split_seat-seat.ensures.4,
      subst (λ (y : View × List ℕ × List (List ℕ) × List ℕ × ℕ). IsInMemory y.0 (seat_memory y.1 y.2 y.3 y.4 c.args.worker) c.master.inside.clock 0)
          (λ i. (view i, list i, sym c.new.ensures.items i, sym c.new-2.ensures.items i, own i)) here,
    )

pub invariant_of-master : goal.invariant_of-master
invariant_of-master g c =
    let v = c.master.inside.seat.me.0 in
    let n = c.master.inside.seats + 2 in
    let chief = ap (λ (s : SeatView). s.shows.master) c.master.view_is ∙ c.requires.may_hand.is_the_master in
    let named = as_many _ _ _ c.master.view_is c.requires.may_hand.at.0 in
    let here = kept_without c.args.worker _ _ _ _ (kept_rolled _ _ _ _ n c.master.invariant.1) chief in
    let told = c.split_seat-seat.ensures.2 in
    let view : rest_of c.master.inside.workers c.args.worker (record v { rolled = n }) ≡ c.split_seat-seat.new.seat.me.0 =
    ap (λ (k : ℕ × ℕ). rest_of k.0 k.1 (record v { rolled = n })) (λ i. (sym (c.requires.chosen.0 ∙ sym named) i, sym c.requires.chosen.1 i))
    ∙ ap (λ (m : Me (Unit {0}) View). rest_of g.C.Chosen.workers g.C.Chosen.worker m.0) (sym c.store.ensures.2)
    ∙ ap (λ (m : Me (Unit {0}) View). m.0) (sym told) in
    let blank = sym (c.replace-own.ensures.after ∙ c.none.ensures) in (
      ap (λ (m : Me (Unit {0}) View). m.1) told ∙ ap (λ (m : Me (Unit {0}) View). m.1) c.store.ensures.2 ∙ c.master.invariant.0,
      subst (λ (y : View × List ℕ). IsInMemory y.0 (seat_memory c.master.inside.own (set c.master.inside.lists.items c.args.worker y.1) c.master.inside.debtors.items c.master.inside.workers c.master.inside.worker) c.master.inside.clock (c.master.inside.seats + 1))
          (λ i. (view i, blank i)) here,
    )
