-- What is made of both halves is made of all.
use Rattle.std.proofs.Common.{◌≡◌, ◌++◌, ◌+◌, ◌-◌, ◌/◌, ◌≤◌, ℕ, IfOk, Ok, Err, Result, ap, arith, length, length-append, rules, subst, sym}
use Rattle.shares.specs.Made.{AreInOrder, IsMade}
use Rattle.shares.specs.declared.piecework.Made.{Made}
use Rattle.shares.proofs.InOrder.{order_joined}
use Rattle.shares.proofs.halves.+halves.Goals as goal

-- neighbours, put together
made_of_both : {P D E : Type 0} (is_piece : ℕ → P → Type 0) (done : ℕ → ℕ → D → Type 0) (low middle high : ℕ)
    (front back : Made P D) (r : Result (Made P D) E) → low ≤ middle → middle ≤ high
    → IsMade is_piece done low middle front → IsMade is_piece done middle high back
    → IfOk r (λ made. made.pieces.items ≡ front.pieces.items ++ back.pieces.items)
    → IfOk r (λ made. (l m h : ℕ) → done l m front.desk → done m h back.desk → done l h made.desk)
    → IfOk r (IsMade is_piece done low high)
made_of_both is_piece done low middle high front back (Ok made) l m f b pieces desk = record {
  in_order = subst (AreInOrder is_piece low) (sym pieces)
      (order_joined is_piece low middle front.pieces.items back.pieces.items (omega (arith, l, f.as_many)) f.in_order b.in_order);
  as_many = omega (arith, l, m, f.as_many, b.as_many, ap length pieces, length-append front.pieces.items back.pieces.items);
  at_desk = desk low middle high f.at_desk b.at_desk;
}
made_of_both is_piece done low middle high front back (Err e) l m f b pieces desk = tt

pub both_halves-returns : goal.both_halves-returns
both_halves-returns g t c =
    let w = g.W.Piecework in
    let self = c.args.work.now in
    let low = c.args.low in
    let high = c.args.high in
    let middle = low + (high - low) / 2 in
    let front : IsMade (w.is_piece self) (w.has_done self) low middle c.in_ok-a.field-0 = search rules in
    let back : IsMade (w.is_piece self) (w.has_done self) middle high c.in_ok-b.field-0 = search rules in
    made_of_both (w.is_piece self) (w.has_done self) low middle high c.in_ok-a.field-0 c.in_ok-b.field-0 c.both.result
    (omega arith) (omega arith) front back c.both.ensures.pieces c.both.ensures.desk
