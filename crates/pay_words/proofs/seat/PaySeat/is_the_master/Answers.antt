use Rattle.std.proofs.Common.{◌∙◌, ap}
use Rattle.std.specs.Prelude.{not}
use Rattle.pay_words.specs.Views.{SeatView}
use Rattle.pay_words.proofs.Seats.{master_by_lists}
use Rattle.pay_words.proofs.seat.PaySeat.is_the_master.Goals as goal

pub returns : goal.returns
returns c = ap not c.is_empty.ensures ∙ master_by_lists _ _ _ _ c.self.invariant.1 _ c.self.inside.lists.ok.0
    ∙ ap (λ (s : SeatView). s.shows.master) c.self.view_is
