use Rattle.std.proofs.Common.{◌≡◌, ◌≢◌, [], length, refl, sym, ap, ◌∙◌, arith}
use Rattle.std.specs.Vec.{vec_len}
use Rattle.std.proofs.lemmas.Bool.{eqb-true, eqb-false}
use Rattle.compress.specs.Walk.{numbers}
use Rattle.compress.proofs.Telling.{ranks_low, retired_kept, retired_known, retired_less, retired_told}
use Rattle.compress.proofs.Steps.{popped, retired_ends, steps_popped}
use Rattle.std.proofs.lemmas.List.{nil_from_length}
use Rattle.compress.proofs.walk.retire.Goals as goal

pub rank_here-requires-clause-bank : goal.rank_here-requires-clause-bank
rank_here-requires-clause-bank c = retired_known c.args.end.0 c.requires.under_way c.requires.end

pub rank_here-requires-clause-ranks : goal.rank_here-requires-clause-ranks
rank_here-requires-clause-ranks c =
    ap length c.as_slice.ensures.value ∙ c.requires.under_way.told.sizes.ranks

pub rank_here-requires-clause-low : goal.rank_here-requires-clause-low
rank_here-requires-clause-low c =
    ranks_low c.as_slice.result.now c.requires.under_way c.requires.network c.as_slice.ensures.value

pub index_mut-requires : goal.index_mut-requires
index_mut-requires c =
    let known = retired_known c.args.end.0 c.requires.under_way c.requires.end in
    omega (arith, known, c.requires.under_way.told.sizes.ranks)

pub index_mut-requires-2 : goal.index_mut-requires-2
index_mut-requires-2 c =
    let known = retired_known c.args.end.0 c.requires.under_way c.requires.end in
    omega (arith, known, c.requires.under_way.told.sizes.marks)

pub returns-then-is_empty-clause-rest : goal.returns-then-is_empty-clause-rest
returns-then-is_empty-clause-rest c =
    let w = c.args.walk.now in
    let old = c.requires.under_way in
    let none : w.steps.items ≡ [] = nil_from_length w.steps.items (omega (arith, eqb-true (vec_len w.steps) 0 (sym c.is_empty.ensures ∙ c.if-is_empty.true))) in
    record {
      empty = none;
      no_walk = rw c.requires.end
          (retired_ends c.args.net.now c.args.class w.start.0 c.args.claims.now (numbers w.steps.items) w.marks.items
          old.walk (ap numbers none)).0;
      told = retired_told w.steps c.args.end.0 c.rank_here.result old c.requires.end c.requires.ready
          (rw c.as_slice.ensures.value at c.rank_here.ensures);
    }

pub returns-then-is_empty-clause-done : goal.returns-then-is_empty-clause-done
returns-then-is_empty-clause-done c =
    let w = c.args.walk.now in
    let none : w.steps.items ≡ [] = nil_from_length w.steps.items (omega (arith, eqb-true (vec_len w.steps) 0 (sym c.is_empty.ensures ∙ c.if-is_empty.true))) in
    rw c.requires.end
    (retired_ends c.args.net.now c.args.class w.start.0 c.args.claims.now (numbers w.steps.items) w.marks.items
    c.requires.under_way.walk (ap numbers none)).1

pub returns-then-is_empty-clause-start : goal.returns-then-is_empty-clause-start
returns-then-is_empty-clause-start c = refl

pub returns-then-is_empty-clause-kept : goal.returns-then-is_empty-clause-kept
returns-then-is_empty-clause-kept c = retired_kept c.args.end.0 c.requires.under_way c.requires.end

pub returns-then-is_empty-clause-less : goal.returns-then-is_empty-clause-less
returns-then-is_empty-clause-less c = retired_less c.args.end.0 c.requires.under_way c.requires.end

pub returns-clause-start : goal.returns-clause-start
returns-clause-start c = refl

pub returns-clause-kept : goal.returns-clause-kept
returns-clause-kept c = retired_kept c.args.end.0 c.requires.under_way c.requires.end

pub returns-clause-less : goal.returns-clause-less
returns-clause-less c = retired_less c.args.end.0 c.requires.under_way c.requires.end

pub returns-clause-under_way : goal.returns-clause-under_way
returns-clause-under_way c =
    let w = c.args.walk.now in
    let old = c.requires.under_way in
    let some : vec_len w.steps ≢ 0 = eqb-false (vec_len w.steps) 0 (sym c.is_empty.ensures ∙ c.if-is_empty.false) in
    record {
      walk = rw c.requires.end
          (popped c.args.net.now c.args.class w.start.0 c.args.claims.now w.marks.items w.steps.items
          c.pop.new.self.items c.pop.result old.walk (c.pop.ensures.variant.1 (omega (arith, some))) c.pop.ensures.items);
      steps = steps_popped c.args.net.now w.steps.items c.pop.new.self.items c.pop.result old.steps c.pop.ensures.items;
      told = retired_told c.pop.new.self c.args.end.0 c.rank_here.result old c.requires.end c.requires.ready
          (rw c.as_slice.ensures.value at c.rank_here.ensures);
    }
