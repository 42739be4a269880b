use Rattle.std.proofs.lemmas.List.{append-nil}
use Rattle.std.proofs.Common.{false, Bool, true, ◌≡◌, ◌<◌, All, length, sym, ap, ◌∙◌, subst, refl, arith}
use Rattle.std.proofs.lemmas.List.Elements.{All-push}
use Rattle.clr_net.specs.declared.debt.BankId.{BankId}
use Rattle.rescue.proofs.SavedBesides.{passing_more}
use Rattle.rescue.proofs.banks.passing.Goals as goal
use Rattle.rescue.proofs.banks.passing.Goals.{then-test+in_ok-push, else-test}

pub loop-number-preserved : goal.loop-number-preserved
loop-number-preserved g c =
    let net = c.args.net.now in
    let n = c.loop-number.number in
    let all = c.loop-number.all.items in
    let b : BankId = record { 0 = n } in
    let passing = λ (v : Bool) (is : c.test.result ≡ v).
    passing_more (g.T.BankTest.passes c.args.test.now net) n all c.if-test.all.items b v
    c.loop-number.invariant.so_far refl (sym c.test.ensures ∙ is) in
    elim c.if-test.branch [
      | then-test+in_ok-push w ↦
          let more = ap (λ v. v.items) w.all-is ∙ w.in_ok-push.ensures.items in
          record {
            so_far = passing true w.if-test.true more;
            known = subst (All (λ (b : BankId). b.0 < length net.banks)) (sym more)
                (All-push (λ (b : BankId). b.0 < length net.banks) all b
                c.loop-number.invariant.known (omega arith));
          }
      | else-test w ↦
          let same = ap (λ v. v.items) w.all-is in
          record {
            so_far = passing false w.if-test.false (same ∙ sym (append-nil all));
            known = subst (All (λ (b : BankId). b.0 < length net.banks)) (sym same)
                c.loop-number.invariant.known;
          }
    ]
