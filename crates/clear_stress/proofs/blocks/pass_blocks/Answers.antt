-- The first block, and then the others.
use Rattle.std.proofs.Common.{◌≡◌, ◌++◌, ◌∷◌, ℕ, List, map, ap}
use Rattle.std.specs.List.{flat_map}
use Rattle.std.proofs.lemmas.List.Folds.{flat_map-map}
use Rattle.std.proofs.lemmas.Result.{err_from_is_err_and}
use Rattle.clear_report.specs.Blocks.{stress_text}
use Rattle.clear_report.specs.Words.{empty_line}
use Rattle.clear_stress.specs.Waiting.{waiting_text}
use Rattle.clear_stress.specs.declared.blocks.UnwrittenBlock.{UnwrittenBlock}
use Rattle.clr_edge.proofs.Passed.{front_stops, then_pass}
use Rattle.clear_stress.proofs.blocks.pass_blocks.Goals as goal

-- the text of all blocks is that of the first, and of each other below an empty line
module _ (text : UnwrittenBlock → List ℕ) (all : List UnwrittenBlock) (first : UnwrittenBlock) (others : List UnwrittenBlock) (are : all ≡ first ∷ others) where
  text_is : stress_text (map text all) ≡ text first ++ flat_map (λ block. empty_line ++ text block) others
  text_is = rw are (ap (λ t. text first ++ t) (flat_map-map (λ block. empty_line ++ block) text others))

pub returns-in_err-pass_block : goal.returns-in_err-pass_block
returns-in_err-pass_block g c =
    let text = waiting_text c.args.heads.now in
    let others = c.in-Some.others.now in
    let why = err_from_is_err_and c.from_residual.result c.from_residual.ensures.1 in
    rw (text_is text c.args.blocks.now c.in-Some.first.now others c.in-Some.ensures.cases.0)
    (front_stops c.from_residual.result (flat_map (λ block. empty_line ++ text block) others) why.1 c.in_err-pass_block.ensures)

pub returns : goal.returns
returns g c =
    rw (text_is (waiting_text c.args.heads.now) c.args.blocks.now c.in-Some.first.now c.in-Some.others.now c.in-Some.ensures.cases.0)
    (then_pass c.pass_others.result c.in_ok-pass_block.ensures c.pass_others.ensures)
