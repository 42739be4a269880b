use Rattle.std.proofs.Common.{◌≡◌, ◌≤◌, ◌+◌, ◌-◌, ◌∷◌, ◌++◌, List, ℕ, length, drop, set, ap, ◌∙◌, arith}
use Rattle.std.proofs.lemmas.List.{length-set}
use borrow.Rule.Slice.PartMut.{put_mid, mid_len}
use Rattle.clr_edge.proofs.LineStart.{starts_late, put_before}
use Rattle.clr_edge.proofs.line.Line.put.Goals as goal

pub overflow_sub-start : goal.overflow_sub-start
overflow_sub-start c =
    let l = c.self.inside in
    let n = length c.args.field.now + 1 in
    let late : n ≤ l.start = starts_late l.bytes c.args.self.now l.start n c.self.told c.self.view_is (omega arith) (omega (arith, c.requires.room)) in
    omega (arith, late)

pub copy_from_slice-requires : goal.copy_from_slice-requires
copy_from_slice-requires c =
    let l = c.self.inside in
    let field = c.args.field.now in
    let n = length field + 1 in
    let late : n ≤ l.start = starts_late l.bytes c.args.self.now l.start n c.self.told c.self.view_is (omega arith) (omega (arith, c.requires.room)) in
    mid_len (l.start - 1 - length field) (l.start - 1) (set l.bytes (l.start - 1) c.args.end)
    (omega (arith, length-set l.bytes (l.start - 1) c.args.end, c.self.invariant, c.self.told)) ∙ omega (arith, late)

pub returns : goal.returns
returns c =
    let l = c.self.inside in
    let field = c.args.field.now in
    let end = c.args.end in
    let n = length field + 1 in
    let first = l.start - 1 - length field in
    let late : n ≤ l.start = starts_late l.bytes c.args.self.now l.start n c.self.told c.self.view_is (omega arith) (omega (arith, c.requires.room)) in
    let next : l.start - 1 + 1 ≡ l.start = omega (arith, late) in
    record {
      bytes =
          ap (λ (text : List ℕ). drop first (put_mid first (l.start - 1 - first) (set l.bytes (l.start - 1) end) text)) c.copy_from_slice.ensures.after
          ∙ put_before l.bytes field end l.start (l.start - 1) next (omega (arith, c.self.invariant, c.self.told)) (omega (arith, late))
          ∙ ap (λ t. field ++ end ∷ t) c.self.view_is;
    }
