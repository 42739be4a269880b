-- One piece more, and the place is done.
use Rattle.std.proofs.Common.{arith}
use Rattle.shares.proofs.InOrder.{length_pushed, order_pushed}
use Rattle.shares.proofs.share.share.Goals as goal

pub loop-place-preserved : goal.loop-place-preserved
loop-place-preserved g c =
    let so_far = c.loop-place.invariant in
    let pieces = c.loop-place.pieces.items in
    let piece = c.in_ok-piece.piece in
    record {
      begun = omega (arith, so_far.begun);
      in_order = order_pushed (g.W.Piecework.is_piece c.args.work.now) c.args.low c.loop-place.place pieces c.push.new.self.items piece
          (omega (arith, so_far.begun, so_far.as_many)) so_far.in_order c.in_ok-piece.ensures.piece c.in_ok-push.ensures.items;
      as_many = omega (arith, so_far.begun, so_far.as_many, length_pushed pieces c.push.new.self.items piece c.in_ok-push.ensures.items);
      at_desk = c.in_ok-piece.ensures.desk c.args.low so_far.at_desk;
    }
