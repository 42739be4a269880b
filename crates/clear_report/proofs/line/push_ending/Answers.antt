use Rattle.std.proofs.Common.{[], ◌∷◌, ◌++◌, append_assoc, map}
use Rattle.clear_report.specs.Fields.{bytes_of}
use Rattle.clear_report.specs.Words.{with_commas}
use Rattle.clear_report.proofs.Lines.{line_ends}
use Rattle.clear_report.proofs.line.push_ending.Goals as goal

pub returns : goal.returns
returns c =
    let fields = map bytes_of c.args.others.now in
    let last = bytes_of c.args.last in
    let more = append_assoc c.args.text.now.items (with_commas fields) (last ++ 10 ∷ []) in
    rw (c.in_ok-push_fields.ensures, more, line_ends fields last) at c.push_ended.ensures
