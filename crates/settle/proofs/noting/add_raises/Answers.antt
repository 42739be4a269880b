use Rattle.std.proofs.Common.{[], length, ap, ◌∙◌, subst, arith}
use Rattle.raise_journal.specs.Gathered.{HasMerged}
use Rattle.raise_journal.proofs.Merged.{grown_merged, grown_none}
use Rattle.settle.proofs.Waiting.{merged_at_end}
use Rattle.settle.proofs.noting.add_raises.Goals as goal
use Rattle.settle.proofs.noting.add_raises.Goals.{then-workers-le-FEW_WORKERS, else-workers-le-FEW_WORKERS}

pub merge_in-requires : goal.merge_in-requires
merge_in-requires c = elim c.if-workers-le-FEW_WORKERS.branch [
  | then-workers-le-FEW_WORKERS w ↦ omega (arith, w.place-is, c.requires)
  | else-workers-le-FEW_WORKERS w ↦ omega (arith, w.place-is, ap length c.as_slice-before.ensures)
]

pub returns : goal.returns
returns c =
    let old = c.args.journal.now.raises in
    let new = c.merge_in.new.journal.raises in
    let raises = c.as_slice-raises in
    let merged = c.in_ok-merge_in.ensures.merged in
    elim c.if-workers-le-FEW_WORKERS.branch [
      | then-workers-le-FEW_WORKERS w ↦
          subst (HasMerged old new c.args.from) raises.ensures (subst (λ k. HasMerged old new k raises.result.now) w.place-is merged)
      | else-workers-le-FEW_WORKERS w ↦
          let at_end = subst (λ k. HasMerged old new k raises.result.now) (w.place-is ∙ ap length c.as_slice-before.ensures) merged in
          merged_at_end old new c.args.made.raises c.args.from
          (grown_merged old old new [] c.args.made.raises (grown_none old) (subst (HasMerged old new (length old)) raises.ensures at_end))
    ]
