use Rattle.std.proofs.Common.{◌≡◌, ◌-◌, ◌≤◌, length}
use Rattle.shares.specs.Made.{AreInOrder}
use Rattle.shares.proofs.share.share.Given as goal

-- the pieces of the places so far
abbrev pub invariant-loop-place : goal.invariant-loop-place
invariant-loop-place g l = record {
  begun : l.low ≤ l.place;
  in_order : AreInOrder (g.W.Piecework.is_piece l.work) l.low l.pieces.items;
  as_many : length l.pieces.items ≡ l.place - l.low;
  at_desk : g.W.Piecework.has_done l.work l.low l.place l.desk;
}
