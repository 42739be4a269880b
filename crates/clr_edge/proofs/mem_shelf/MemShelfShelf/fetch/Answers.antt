use Rattle.std.proofs.Common.{◌≡◌, refl, sym, ap, ◌∙◌, Some, map, string_bytes}
use Rattle.clr_edge.specs.Faults.{counted}
use Rattle.clr_edge.specs.MemShelf.{ShelfState, next_file}
use Rattle.clr_edge.proofs.Fetches.{GaveFront, IsNoted, found_next, front_found, front_of_file, front_never_fails, on_ok}
use Rattle.clr_edge.proofs.Fetches.{counted_after, counted_files, counted_same, counted_keeps}
use Rattle.clr_edge.proofs.Fetches.{noted_after, unnoted_after, noted_files, noted_keeps, noted_elsewhere, noted_rises}
use Rattle.clr_edge.proofs.mem_shelf.MemShelfShelf.fetch.Goals as goal
use Rattle.clr_edge.proofs.mem_shelf.MemShelfShelf.fetch.Goals.{in-Ok, in-Err}

-- where a file was found, its front was given, or memory was wanting
gave : (c : goal.Joined-front) → GaveFront c.match-front.result c.in-Some.bytes.now c.args.limit
gave c = elim c.match-front.branch [
  | in-Ok w ↦ rw w.result-is w.in-Ok.ensures
  | in-Err w ↦ rw w.result-is refl
]

pub returns-after-front-clause-files : goal.returns-after-front-clause-files
returns-after-front-clause-files c =
    counted_files c.args.self.now _ (counted_after _ _ _ c.self.view_is c.saturating_add-self-inside.ensures)

pub returns-after-front-clause-fetched : goal.returns-after-front-clause-fetched
returns-after-front-clause-fetched c =
    let found : next_file c.args.self.now c.args.name.now ≡ Some c.in-Some.bytes.now = sym (found_next c.args.self.now _ _ _ c.args.name.now
    (c.saturating_add-self-inside.ensures ∙ ap (λ (s : ShelfState). counted s.calls) c.self.view_is)
    (c.deref-2.ensures.value ∙ ap (λ (s : ShelfState). s.to_fail) c.self.view_is)
    (c.deref.ensures.value ∙ ap (λ (s : ShelfState). s.entries) c.self.view_is)) ∙ sym c.in-Some.ensures in
    front_of_file c.args.self.now c.args.name.now c.in-Some.bytes.now c.args.limit found c.match-front.result (gave c)

pub returns-after-front-clause-faults : goal.returns-after-front-clause-faults
returns-after-front-clause-faults c =
    counted_keeps c.args.self.now _ (counted_after _ _ _ c.self.view_is c.saturating_add-self-inside.ensures)

pub returns-after-front-clause-failed : goal.returns-after-front-clause-failed
returns-after-front-clause-failed c =
    front_never_fails _ _ _ _ (gave c)

pub returns-after-front-clause-answers : goal.returns-after-front-clause-answers
returns-after-front-clause-answers c =
    let found : next_file c.args.self.now c.args.name.now ≡ Some c.in-Some.bytes.now = sym (found_next c.args.self.now _ _ _ c.args.name.now
    (c.saturating_add-self-inside.ensures ∙ ap (λ (s : ShelfState). counted s.calls) c.self.view_is)
    (c.deref-2.ensures.value ∙ ap (λ (s : ShelfState). s.to_fail) c.self.view_is)
    (c.deref.ensures.value ∙ ap (λ (s : ShelfState). s.entries) c.self.view_is)) ∙ sym c.in-Some.ensures in
    front_found c.args.self.now c.args.name.now c.in-Some.bytes.now c.args.limit found c.match-front.result (gave c)

pub returns-after-front-clause-fails : goal.returns-after-front-clause-fails
returns-after-front-clause-fails c =
    front_never_fails _ _ _ _ (gave c)

pub returns-after-front-clause-ok : goal.returns-after-front-clause-ok
returns-after-front-clause-ok c =
    on_ok c.match-front.result (counted_after _ _ _ c.self.view_is c.saturating_add-self-inside.ensures)

pub returns-after-front-clause-noted : goal.returns-after-front-clause-noted
returns-after-front-clause-noted c =
    front_never_fails _ _ _ _ (gave c)

pub returns-after-front-clause-mem : goal.returns-after-front-clause-mem
returns-after-front-clause-mem c =
    λ _. counted_after _ _ _ c.self.view_is c.saturating_add-self-inside.ensures

pub returns-after-front-clause-alone : goal.returns-after-front-clause-alone
returns-after-front-clause-alone c =
    λ other _. counted_same c.args.self.now _ (counted_after _ _ _ c.self.view_is c.saturating_add-self-inside.ensures) other

pub returns-in-None-clause-files : goal.returns-in-None-clause-files
returns-in-None-clause-files c =
    let shelf : IsNoted c.args.self.now _ c.args.name.now c.note.result = record {
      failed = λ e. noted_after _ _ _ _ (map string_bytes c.note.new.noted.items) c.self.view_is c.saturating_add-self-inside.ensures (c.note.ensures.failed e);
      mem = λ e. unnoted_after _ _ _ (map string_bytes c.note.new.noted.items) c.self.view_is c.saturating_add-self-inside.ensures (ap (map string_bytes) (c.note.ensures.mem e));
    } in
    noted_files _ _ _ _ shelf

pub returns-in-None-clause-faults : goal.returns-in-None-clause-faults
returns-in-None-clause-faults c =
    let shelf : IsNoted c.args.self.now _ c.args.name.now c.note.result = record {
      failed = λ e. noted_after _ _ _ _ (map string_bytes c.note.new.noted.items) c.self.view_is c.saturating_add-self-inside.ensures (c.note.ensures.failed e);
      mem = λ e. unnoted_after _ _ _ (map string_bytes c.note.new.noted.items) c.self.view_is c.saturating_add-self-inside.ensures (ap (map string_bytes) (c.note.ensures.mem e));
    } in
    noted_keeps _ _ _ _ shelf

pub returns-in-None-clause-alone : goal.returns-in-None-clause-alone
returns-in-None-clause-alone c =
    let shelf : IsNoted c.args.self.now _ c.args.name.now c.note.result = record {
      failed = λ e. noted_after _ _ _ _ (map string_bytes c.note.new.noted.items) c.self.view_is c.saturating_add-self-inside.ensures (c.note.ensures.failed e);
      mem = λ e. unnoted_after _ _ _ (map string_bytes c.note.new.noted.items) c.self.view_is c.saturating_add-self-inside.ensures (ap (map string_bytes) (c.note.ensures.mem e));
    } in
    noted_elsewhere _ _ _ _ shelf

pub returns-in-None-clause-failed : goal.returns-in-None-clause-failed
returns-in-None-clause-failed c =
    let shelf : IsNoted c.args.self.now _ c.args.name.now c.note.result = record {
      failed = λ e. noted_after _ _ _ _ (map string_bytes c.note.new.noted.items) c.self.view_is c.saturating_add-self-inside.ensures (c.note.ensures.failed e);
      mem = λ e. unnoted_after _ _ _ (map string_bytes c.note.new.noted.items) c.self.view_is c.saturating_add-self-inside.ensures (ap (map string_bytes) (c.note.ensures.mem e));
    } in
    λ e. noted_rises _ _ _ _ shelf (cc)

pub returns-in-None-clause-fails : goal.returns-in-None-clause-fails
returns-in-None-clause-fails c =
    λ _. sym (found_next c.args.self.now _ _ _ c.args.name.now (c.saturating_add-self-inside.ensures ∙ ap (λ (s : ShelfState). counted s.calls) c.self.view_is) (c.deref-2.ensures.value ∙ ap (λ (s : ShelfState). s.to_fail) c.self.view_is) (c.deref.ensures.value ∙ ap (λ (s : ShelfState). s.entries) c.self.view_is)) ∙ sym c.in-None.ensures

pub returns-in-None-clause-noted : goal.returns-in-None-clause-noted
returns-in-None-clause-noted c =
    let shelf : IsNoted c.args.self.now _ c.args.name.now c.note.result = record {
      failed = λ e. noted_after _ _ _ _ (map string_bytes c.note.new.noted.items) c.self.view_is c.saturating_add-self-inside.ensures (c.note.ensures.failed e);
      mem = λ e. unnoted_after _ _ _ (map string_bytes c.note.new.noted.items) c.self.view_is c.saturating_add-self-inside.ensures (ap (map string_bytes) (c.note.ensures.mem e));
    } in
    λ e. shelf.failed (cc)

pub returns-in-None-clause-mem : goal.returns-in-None-clause-mem
returns-in-None-clause-mem c =
    let shelf : IsNoted c.args.self.now _ c.args.name.now c.note.result = record {
      failed = λ e. noted_after _ _ _ _ (map string_bytes c.note.new.noted.items) c.self.view_is c.saturating_add-self-inside.ensures (c.note.ensures.failed e);
      mem = λ e. unnoted_after _ _ _ (map string_bytes c.note.new.noted.items) c.self.view_is c.saturating_add-self-inside.ensures (ap (map string_bytes) (c.note.ensures.mem e));
    } in
    λ e. shelf.mem (cc)
