-- Worked cases of blocks that are written.
use Rattle.std.specs.Prelude.{◌≡◌, ℕ, Vec, [], ◌∷◌, ◌++◌, codes}
use Rattle.std.specs.Fmt.{decimal, digits}
use Rattle.std.specs.Global.{Global}
use Rattle.std.proofs.Common.{◌∙◌}
use Rattle.clr_net.specs.Lines.{line}
use Rattle.clear_stress.specs.Waiting.{paid_lines, waiting_text}
use Rattle.clear_stress.specs.declared.blocks.UnwrittenBlock.{UnwrittenBlock}

-- of one debt, on which 7 are paid
pub block_of_one_debt : (head : Vec ℕ Global) (block : UnwrittenBlock)
    → head.items ≡ codes "A,B,1,10," → block.above.items ≡ codes "above\n"
    → block.paid.items ≡ 7 ∷ [] → block.below.items ≡ codes "below\n"
    → waiting_text (head ∷ []) block ≡ codes "above\nA,B,1,10,7\nbelow\n"
unfolding digits
block_of_one_debt head block begins above paid below =
    (λ i. above i ++ (paid_lines (head ∷ []) (paid i) ++ below i))
    ∙ (λ i. codes "above\n" ++ (((begins i ++ line (decimal 7 ∷ [])) ++ []) ++ codes "below\n"))

-- of no debt: nothing stands between what is above and what is below
pub block_of_no_debt : (block : UnwrittenBlock)
    → block.above.items ≡ codes "above\n" → block.below.items ≡ codes "below\n"
    → waiting_text [] block ≡ codes "above\nbelow\n"
block_of_no_debt block above below = λ i. above i ++ below i
