use Rattle.std.proofs.lemmas.List.{append-nil}
use Rattle.std.proofs.Common.{false, Bool, true, ◌≡◌, ◌∙◌, sym, ap}
use Rattle.impact.proofs.Hurts.{hurts_more}
use Rattle.impact.proofs.compare.Ruin.hurts.Goals as goal
use Rattle.impact.proofs.compare.Ruin.hurts.Goals.{then-is_hurt+in_ok-push, else-is_hurt}

pub loop-number-preserved : goal.loop-number-preserved
loop-number-preserved c =
    let all = c.loop-number.all.items in
    let more = λ (b : Bool) (is : c.is_hurt.result ≡ b).
    hurts_more c.args.self.now.net.now c.args.self.now.ruined.0 c.loop-number.number all c.if-is_hurt.all.items
    c.hurt_of-hurt.result b c.loop-number.invariant c.hurt_of-hurt.ensures
    (sym c.is_hurt.ensures ∙ is) in
    elim c.if-is_hurt.branch [
      | then-is_hurt+in_ok-push w ↦
          more true w.if-is_hurt.true (ap (λ v. v.items) w.all-is ∙ w.in_ok-push.ensures.items)
      | else-is_hurt w ↦
          more false w.if-is_hurt.false (ap (λ v. v.items) w.all-is ∙ sym (append-nil all))
    ]
