use Rattle.std.proofs.Common.{Some, [], List, ℕ, sym, ◌∙◌, ap}
use Rattle.std.proofs.lemmas.List.{get_or_read}
use Rattle.clr_edge.proofs.Names.{first_from_position, missing_from_position, bytes_of-first, bytes_of-missing}
use Rattle.clr_edge.proofs.mem_shelf.file_of.Goals as goal

pub returns-in-Some : goal.returns-in-Some
returns-in-Some c =
    let files = c.args.files.now in
    let first = first_from_position c.args.name.now files c.in-Some.place (sym c.in-Some.ensures) in
    let read = get_or_read files c.in-Some.place _ first.within c.index-files-place.is ([], []) in
    ap (λ (bytes : List ℕ). Some bytes) (c.deref.ensures.value ∙ ap (λ (entry : List ℕ × List ℕ). entry.1) (c.file.view_is ∙ read))
    ∙ sym (bytes_of-first c.args.name.now files c.in-Some.place first)

pub returns-in-None : goal.returns-in-None
returns-in-None c = sym (bytes_of-missing c.args.name.now c.args.files.now (missing_from_position _ _ (sym c.in-None.ensures)))
