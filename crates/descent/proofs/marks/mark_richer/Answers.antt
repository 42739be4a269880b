use Rattle.std.proofs.Common.{◌≡◌, ◌==◌, ℕ, Bool, false, get_or, not, sym, subst, ◌∙◌, below_more, arith}
use Rattle.std.proofs.lemmas.Bool.{OnFalse_from}
use Rattle.std.proofs.lemmas.Bool.Decides.{nat_tests}
use Rattle.std.proofs.lemmas.List.{get_or-set_other, get_or-set_same}
use Rattle.std.specs.Bool.{OnFalse}
use Rattle.clr_net.specs.Net.{cash_of}
use Rattle.cascade.proofs.CashAt.{cash_read}
use Rattle.descent.proofs.marks.mark_richer.Goals as goal

pub loop-number-preserved : goal.loop-number-preserved
loop-number-preserved c =
    let n = c.loop-number.number in
    let marks = c.loop-number.marks in
    let laid = c.args.laid.now in
    let before = c.args.before.now in
    let had = get_or before n 0 in
    let units = c.bank.result.now.cash in
    let b = not (had == units) in
    let same = λ (i : ℕ). get_or before i 0 ≡ cash_of laid i in
    let told : b ≡ false → had ≡ units = λ e. grind (arith, nat_tests) in
    below_more _ n
    (λ i l. subst (λ (m : Bool). OnFalse m (same i))
    (sym (get_or-set_other marks n i b false (λ e. omega arith))) (c.loop-number.invariant i l))
    (subst (λ (m : Bool). OnFalse m (same n)) (sym (get_or-set_same marks n b false (omega arith)))
    (OnFalse_from b _ (λ e. told e ∙ sym (cash_read laid n c.bank.result.now c.bank.ensures))))
