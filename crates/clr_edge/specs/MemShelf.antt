-- A shelf in memory.
use Rattle.std.specs.Prelude.{ℕ, List, [], ◌∷◌, ◌++◌, ◌==◌, if◌then◌else◌, count_by, bytes_eq, Option, Some, None}
use Rattle.std.specs.List.{list_any}
use Rattle.std.specs.Map.{lookup}
use Rattle.clr_edge.specs.Faults.{counted}

-- Names and the bytes of their files; the names at which a fetch failed, one entry for each such
-- fetch; the numbers of the fetches that are to fail, from 1; and how many fetches there were.
pub record ShelfState : Type 0 where
  pub entries : List (List ℕ × List ℕ)
  pub noted : List (List ℕ)
  pub to_fail : List ℕ
  pub calls : ℕ

abbrev pub empty_shelf : ShelfState
empty_shelf = record { entries = []; noted = []; to_fail = []; calls = 0 }

-- the bytes of the file of a name, where there is one
abbrev pub file_at : ShelfState → List ℕ → Option (List ℕ)
file_at shelf name = lookup (λ other. bytes_eq other name) shelf.entries

-- how many fetches of a name failed
abbrev pub fault_count : ShelfState → List ℕ → ℕ
fault_count shelf name = count_by (λ other. bytes_eq other name) shelf.noted

-- these files, with these bytes for this name
abbrev pub with_file : (List ℕ → Option (List ℕ)) → List ℕ → List ℕ → List ℕ → Option (List ℕ)
with_file files name bytes other = if bytes_eq name other then Some bytes else files other

-- what the next fetch finds at a name: nothing if it is one that is to fail, else the file, where
-- there is one
abbrev pub next_file : ShelfState → List ℕ → Option (List ℕ)
next_file shelf name =
    if list_any (λ call. call == counted shelf.calls) shelf.to_fail then None
    else file_at shelf name

-- after one more fetch
abbrev pub with_call : ShelfState → ShelfState
with_call shelf = record shelf { calls = counted shelf.calls }

-- after one more fetch, which failed at this name
abbrev pub with_fault : ShelfState → List ℕ → ShelfState
with_fault shelf name =
    record shelf { noted = shelf.noted ++ name ∷ []; calls = counted shelf.calls }
