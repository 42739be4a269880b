use Rattle.std.proofs.Common.{◌∙◌, set, ap, sym, subst, rules, arith}
use Rattle.atomic_table.specs.Table.{Me}
use Rattle.pay_words.specs.declared.view.View.{View}
use Rattle.pay_words.specs.Memory.{IsInMemory, seat_memory}
use Rattle.pay_words.specs.Ringing.{OwesNoRing}
use Rattle.pay_words.specs.Views.{SeatView}
use Rattle.pay_words.proofs.Joins.{joins}
use Rattle.pay_words.proofs.Seats.{kept_both, list_there, net_within, same_workers}
use Rattle.pay_words.proofs.board.Board.take_back.Goals as goal

pub join_seat-requires : goal.join_seat-requires
join_seat-requires c = (
  search rules,
  search rules,
  c.seat.invariant.0,
  omega (arith, c.self.invariant.0.words_are),
  joins _ _ _ _ _ (record {
    live = c.master.invariant.1.live;
    chief = ap (λ (s : SeatView). s.shows.master) c.master.view_is ∙ c.requires.is_the_master;
    also_live = c.seat.invariant.1.live;
    plain = ap (λ (s : SeatView). s.shows.master) c.seat.view_is ∙ c.requires.not_the_master;
    calm = subst (λ (s : SeatView). OwesNoRing s.shows) (sym c.seat.view_is) c.requires.rings;
  }),
)

pub index_mut-requires : goal.index_mut-requires
index_mut-requires c =
    let own = net_within _ _ _ _ c.master.view_is c.self.view_is c.requires.master.1 in
    let theirs = net_within _ _ _ _ c.seat.view_is c.self.view_is c.requires.seat.1 in
    let workers = same_workers _ _ _ _ _ c.master.view_is c.seat.view_is c.requires.master.0 c.requires.seat.0 in
    let there = list_there _ _ _ _ _ _ _ _ c.master.invariant.1 c.seat.invariant.1
    (theirs ∙ sym own) (ap (λ (s : SeatView). s.shows.master) c.master.view_is ∙ c.requires.is_the_master)
    (ap (λ (s : SeatView). s.shows.master) c.seat.view_is ∙ c.requires.not_the_master) workers in
    omega (arith, there, c.master.inside.lists.ok.0)

pub invariant_of-master : goal.invariant_of-master
invariant_of-master c =
    let own = net_within _ _ _ _ c.master.view_is c.self.view_is c.requires.master.1 in
    let theirs = net_within _ _ _ _ c.seat.view_is c.self.view_is c.requires.seat.1 in
    let workers = same_workers _ _ _ _ _ c.master.view_is c.seat.view_is c.requires.master.0 c.requires.seat.0 in
    let kept = kept_both _ _ _ _ _ _ _ _ c.master.invariant.1 c.seat.invariant.1 (theirs ∙ sym own)
    (ap (λ (s : SeatView). s.shows.master) c.master.view_is ∙ c.requires.is_the_master)
    (ap (λ (s : SeatView). s.shows.master) c.seat.view_is ∙ c.requires.not_the_master)
    workers c.max-master-inside.result c.max-master-inside.ensures in (
      ap (λ (m : Me (Unit {0}) View). m.1) c.join_seat.ensures.2 ∙ c.master.invariant.0,
      subst (λ (m : Me (Unit {0}) View). IsInMemory m.0 (seat_memory c.master.inside.own (set c.master.inside.lists.items c.seat.inside.worker c.seat.inside.own) c.master.inside.debtors.items c.master.inside.workers c.master.inside.worker) c.max-master-inside.result c.master.inside.seats) (sym c.join_seat.ensures.2) kept,
    )
