use Rattle.std.proofs.Common.{rules, ◌≡◌, ◌⊎◌, ◌+◌, ◌-◌, ◌≤◌, inl, inr, arith}
use Rattle.rule_level.proofs.Narrowing.{ends_between, narrow_end, narrow_next, narrow_start, IsNarrow}
use Rattle.rule_level.proofs.Steps.{sum_met, sum_none}
use Rattle.rule_level.proofs.search.level_for.Goals.{then-units-eq0, else-units-eq0, then-given-units, else-given-units, then-units-given, else-units-given}
use Rattle.rule_level.proofs.search.level_for.Goals as goal

pub loop-look-init : goal.loop-look-init
loop-look-init c =
    let kind = c.args.kind in
    let mine = c.args.claims.now in
    let around = c.levels_around-low.ensures in
    let greatest = c.greatest_claim.result in
    let none = sum_none kind c.levels_around-low.result.0 greatest mine c.greatest_claim.ensures.greatest around.none in
    let met = sum_met kind c.levels_around-low.result.1 greatest mine c.greatest_claim.ensures.greatest around.met in
    elim c.if-units-eq0.branch [
      | then-units-eq0 w ↦ record {
        between = omega (arith, w.high-is);
        below_top = around.in_order.1;
        top = omega (arith, w.high-is, around.in_order.1);
        low = omega (arith, none);
        high = omega (arith, w.if-units-eq0.true);
        part = omega arith;
        narrow = narrow_start (c.if-units-eq0.high - c.levels_around-low.result.0 - 1) (omega (arith, w.high-is, around.in_order.1));
      }
      | else-units-eq0 w ↦ record {
        between = omega (arith, w.high-is, around.in_order.0);
        below_top = around.in_order.1;
        top = omega (arith, w.high-is, around.in_order.2);
        low = omega (arith, none);
        high = rw w.high-is (omega (arith, c.requires.short, c.requires.claimed, met));
        part = omega arith;
        narrow = narrow_start (c.if-units-eq0.high - c.levels_around-low.result.0 - 1) (omega (arith, w.high-is, around.in_order.2));
      }
    ]

pub loop-look-preserved : goal.loop-look-preserved
loop-look-preserved c =
    let low = c.loop-look.low in
    let high = c.loop-look.high in
    let middle = c.next_level-middle.result in
    let l = c.if-given-units.low in
    let h = c.if-units-given.high in
    let at = c.next_level-middle.ensures in
    let up : low ≤ l = elim c.if-given-units.branch [
      | then-given-units v ↦ omega (arith, v.low-is, at.between.0)
      | else-given-units v ↦ omega (arith, v.low-is)
    ] in
    let down : h ≤ high = elim c.if-units-given.branch [
      | then-units-given w ↦ omega (arith, w.high-is, at.between.1)
      | else-units-given w ↦ omega (arith, w.high-is)
    ] in
    let moved : (l ≡ middle) ⊎ (h ≡ middle) = elim c.if-given-units.branch [
      | then-given-units v ↦ inl v.low-is
      | else-given-units v ↦ elim c.if-units-given.branch [
        | then-units-given w ↦ inr w.high-is
        | else-units-given w ↦ absurd (omega (arith, v.if-given-units.false, w.if-units-given.false))
      ]
    ] in
    let narrow : IsNarrow (c.loop-look.look + 1) (h - l - 1) =
    narrow_next c.loop-look.look low high middle l h at.between.0 at.between.1 up down moved at.middle c.loop-look.invariant.narrow in
    search (narrow, rules)

pub returns-then-low-high-clause-high : goal.returns-then-low-high-clause-high
returns-then-low-high-clause-high c =
    let h = c.loop-look.invariant in
    ends_between c.args.kind c.args.claims.now c.args.units c.loop-look.low c.loop-look.high h.between (omega arith) h.high

pub returns-after-loop-look-clause-high : goal.returns-after-loop-look-clause-high
returns-after-loop-look-clause-high c =
    let h = c.loop-look.invariant in
    let none = narrow_end c.loop-look.look (c.loop-look.high - c.loop-look.low - 1) (omega arith) h.narrow in
    ends_between c.args.kind c.args.claims.now c.args.units c.loop-look.low c.loop-look.high h.between (omega (arith, none)) h.high
