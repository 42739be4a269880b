use Rattle.std.proofs.Common.{rules, ◌+◌, ◌∙◌, ap, sym, get_or, sum_by, take}
use Rattle.std.proofs.lemmas.List.Sums.{sum_by_more}
use Rattle.clear_report.proofs.sums.total.Goals as goal

pub loop-standing-preserved : goal.loop-standing-preserved
loop-standing-preserved g c = record {
  total_is =
      let all = c.args.all.now in
      let i = c.loop-standing.standing-index in
      let f = λ (s : _). get_or (g.S.Stands.units s) c.args.place 0 in
      ap (λ t. t + c.from-total.result) c.loop-standing.invariant.total_is
      ∙ ap (λ n. sum_by f (take i all) + n) (c.from-total.ensures
      ∙ ap (λ l. get_or l c.args.place 0) c.numbers.ensures ∙ ap f c.standing-item.is)
      ∙ sym (sum_by_more f all i c.standing-item.result c.loop-standing-test.true);
  in_limit = search rules;
}
