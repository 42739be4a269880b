use Rattle.std.proofs.Common.{[], ◌∷◌, ◌++◌, sym, ◌∙◌, ap}
use Rattle.std.specs.List.{position}
use Rattle.clr_edge.proofs.Names.{is_named, IsAdded, added_in_place, added_behind}
use Rattle.clr_edge.proofs.mem_shelf.MemShelf.add.Goals as goal

pub returns-in-Some-clause-files : goal.returns-in-Some-clause-files
returns-in-Some-clause-files c =
    let name = c.args.name.now in
    let found = ap (position (is_named name)) (sym c.deref.ensures.value) ∙ sym c.in-Some.ensures in
    let added : IsAdded name c.args.bytes.now c.args.self.now.entries c.replace.new.files.items =
    added_in_place _ _ _ _ _ _ (λ i. (c.self.view_is i).entries) c.in_ok-copy.ensures.items c.in-Some.place found c.replace.ensures in
    λ i other. added other i

pub returns-in_ok-push-in-None-clause-files : goal.returns-in_ok-push-in-None-clause-files
returns-in_ok-push-in-None-clause-files c =
    let name = c.args.name.now in
    let none = ap (position (is_named name)) (sym c.deref.ensures.value) ∙ sym c.in-None.ensures in
    let pushed = c.in_ok-push-in-None.ensures.items
    ∙ (λ i. c.self.inside.files.items ++ (c.in_ok-name-in-None.ensures.ok i, c.in_ok-copy.copy.items) ∷ []) in
    let added : IsAdded name c.args.bytes.now c.args.self.now.entries c.push.new.self.items =
    added_behind _ _ _ _ _ _ (λ i. (c.self.view_is i).entries) c.in_ok-copy.ensures.items none pushed in
    λ i other. added other i
