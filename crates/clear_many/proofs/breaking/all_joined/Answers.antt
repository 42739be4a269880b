-- One block more is put together with those below it.
use Rattle.std.proofs.Common.{◌≡◌, ℕ, ◌+◌, length, map, sym, ap, ◌∙◌, arith}
use Rattle.cascade.specs.Standings.{bank_numbers}
use Rattle.clear_report.proofs.Begun.{head_at}
use Rattle.shares.proofs.InOrder.{read_off}
use Rattle.stress.proofs.Descent.{shares_join}
use Rattle.stress.specs.Breaking.{breaking_within}
use Rattle.clear_many.specs.Blocks.{IsTold, across, edge}
use Rattle.clear_many.specs.declared.cuts.TheConstants.{BLOCKS}
use Rattle.clear_many.proofs.Broken.{across_back, as_many_broken, edges_rise}
use Rattle.clear_many.proofs.breaking.all_joined.Goals.{After-as_slice}
use Rattle.clear_many.proofs.breaking.all_joined.Goals as goal

-- what a block tells stands in its place
told : (c : After-as_slice) → c.as_slice.result.now
    ≡ map (breaking_within (edge c.loop-block.block) (edge (c.loop-block.block + 1)) c.args.net.now)
    (bank_numbers c.args.net.now)
told c =
    let block_at = λ (b : ℕ). map (breaking_within (edge b) (edge (b + 1)) c.args.net.now) (bank_numbers c.args.net.now) in
    let back = across_back c.loop-block.block (omega (arith, c.loop-block-test.true)) in
    c.as_slice.ensures.value
    ∙ head_at (λ k. block_at (across k)) c.args.pieces.now BLOCKS
    (read_off (IsTold c.args.net.now) (λ t. t.items) (λ k. block_at (across k)) 0 BLOCKS c.args.pieces.now (λ k t is. is)
    c.requires.as_many c.requires.in_order)
    c.across.result c.index-pieces-across.result (omega (arith, c.across.ensures, back.0)) c.index-pieces-across.is
    ∙ ap block_at (ap across c.across.ensures ∙ back.1)

pub joined-all-requires : goal.joined-all-requires
joined-all-requires c =
    let net = c.args.net.now in
    let block = c.loop-block.block in
    ap length c.loop-block.invariant ∙ as_many_broken net 0 (edge block)
    ∙ sym (ap length (told (goal.at.joined-all-requires c).After-as_slice)
    ∙ as_many_broken net (edge block) (edge (block + 1)))

pub loop-block-preserved : goal.loop-block-preserved
loop-block-preserved c =
    let net = c.args.net.now in
    let block = c.loop-block.block in
    let more = told (goal.at.loop-block-preserved c).After-as_slice in
    rw (c.joined-all.ensures, c.edge.ensures, c.loop-block.invariant, more)
    (shares_join net 0 (edge block) (edge (block + 1)) (bank_numbers net) (omega arith) (edges_rise block))
