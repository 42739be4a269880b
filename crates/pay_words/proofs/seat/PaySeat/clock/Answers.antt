use Rattle.std.proofs.Common.{subst}
use Rattle.pay_words.specs.Sound.{PaysWithin}
use Rattle.pay_words.specs.Views.{SeatView}
use Rattle.pay_words.proofs.Seats.{clock_in_limit}
use Rattle.pay_words.proofs.seat.PaySeat.clock.Goals as goal

pub returns-clause-in_limit : goal.returns-clause-in_limit
returns-clause-in_limit c = clock_in_limit _ _ _ _ c.self.invariant.1

pub returns-clause-pays_within : goal.returns-clause-pays_within
returns-clause-pays_within c = subst (λ (s : SeatView). PaysWithin s.shows) c.self.view_is c.self.invariant.1.sound.pays_within
