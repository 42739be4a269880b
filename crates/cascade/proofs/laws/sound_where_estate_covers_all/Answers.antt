use Rattle.cascade.proofs.Healths.{sound_enough, enough_sound}
use Rattle.cascade.proofs.PayingOut.{paid_is}
use Rattle.cascade.proofs.laws.sound_where_estate_covers_all.Goals as goal

pub returns : goal.returns
returns c net P network clears i =
    let pays = paid_is net P network clears i in
    (sound_enough net P i pays, enough_sound net P i pays)
