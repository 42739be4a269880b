use Rattle.std.proofs.Common.{false, Bool, true, ◌≡◌, ℕ, ◌+◌, get_or, sym, ap, ◌∙◌, arith}
use Rattle.clr_net.specs.Net.{debtor_of, column}
use Rattle.compress.specs.Compression.{is_live}
use Rattle.compress.proofs.Most.{most_more}
use Rattle.compress.proofs.Searching.{stands_in_column}
use Rattle.compress.proofs.search.rank_here.Goals.{then-is_live, else-is_live}
use Rattle.compress.proofs.search.rank_here.Goals as goal

pub debtor_of-debtor-requires : goal.debtor_of-debtor-requires
debtor_of-debtor-requires c =
    (stands_in_column c.args.net.now _ _ c.loop-id.id-index (record { 0 = 0 })
    c.column-id-items.ensures c.loop-id-test.true).in_range

pub is_live-requires-clause-debt : goal.is_live-requires-clause-debt
is_live-requires-clause-debt c =
    (stands_in_column c.args.net.now _ _ c.loop-id.id-index (record { 0 = 0 })
    c.column-id-items.ensures c.loop-id-test.true).in_range

pub bounds-ranks-debtor : goal.bounds-ranks-debtor
bounds-ranks-debtor c =
    let stands = stands_in_column c.args.net.now _ _ c.loop-id.id-index (record { 0 = 0 })
    c.column-id-items.ensures c.loop-id-test.true in
    omega (
      arith,
      (c.banks.ensures.network.each_debt _ stands.in_range).debtor_known,
      c.debtor_of-debtor.ensures.debtor,
      c.requires.ranks,
    )

pub overflow_add-ranks : goal.overflow_add-ranks
overflow_add-ranks c = omega (arith, c.requires.low c.debtor_of-debtor.result.0)

pub loop-id-preserved : goal.loop-id-preserved
loop-id-preserved c =
    let net = c.args.net.now in
    let R = c.args.ranks.now in
    let f = λ (y : ℕ). get_or R (debtor_of net y) 0 + 1 in
    let stands = stands_in_column net _ _ c.loop-id.id-index (record { 0 = 0 })
    c.column-id-items.ensures c.loop-id-test.true in
    let more = λ (b : Bool) (is : c.is_live.result ≡ b).
    most_more f (is_live net c.args.claims.now c.args.class) (column net c.args.bank.0) _ _ b
    stands.place stands.at (sym c.is_live.ensures ∙ is) in
    elim c.if-is_live.branch [
      | then-is_live w ↦ omega (
        arith,
        w.most-is,
        w.max-most.ensures,
        c.loop-id.invariant,
        more true w.if-is_live.true,
        ap (λ j. get_or R j 0) c.debtor_of-debtor.ensures.debtor,
      )
      | else-is_live w ↦ omega (
        arith,
        w.most-is,
        c.loop-id.invariant,
        more false w.if-is_live.false,
      )
    ]
