-- What was fetched is the whole file, since it is not longer than the limit; or it shows that the
-- file is.
use Rattle.std.proofs.Common.{◌≡◌, ℕ, ◌+◌, ◌^◌, ◌<◌, ◌≤◌, List, length, take}
use Rattle.std.proofs.Common.{Option, None, Some, Ok, Err, refl, ap, ◌∙◌}
use Rattle.std.proofs.Common.{arith}
use Rattle.std.proofs.lemmas.Bool.{le-leb, lt-leb}
use Rattle.std.proofs.lemmas.List.{take_all, length-take}
use Rattle.clr_edge.specs.Shelf.{IsFetched}
use Rattle.net_check.specs.Record.{fault_at}
use Rattle.net_check.specs.declared.fault.FileKind.{FileKind}
use Rattle.net_check.specs.declared.fault.FileKind.TheVariants as file
use Rattle.net_check.specs.declared.fault.FaultKind.TheVariants as fault
use Rattle.clear_load.specs.Loading.{GivesWhole}
use Rattle.clear_load.specs.Reading.{Files}
use Rattle.net_check.specs.Within.{file_limit}
use Rattle.net_check.specs.declared.limits.Limits.{Limits}
use Rattle.net_check.specs.declared.limits.Limits.TheVariants as limits
use Rattle.clear_load.proofs.loading.fetch_whole.Goals as goal

-- where the files are told, there is one of this name, and its front was fetched
file_found : (by : Limits) (told : Files) (k : FileKind) (name bytes : List ℕ) (o : Option (List ℕ)) → told name ≡ o
    → IsFetched (Some told) name (file_limit by k) bytes
    → (file : List ℕ) × (told name ≡ Some file) × (bytes ≡ take (file_limit by k + 1) file)
file_found by told k name bytes None at fetched = absurd (rw at at fetched)
file_found by told k name bytes (Some file) at fetched = (file, at, rw at at fetched)

-- what is fetched is given whole where it is within the size
gives_bytes : (by : Limits) (files : Option Files) (k : FileKind) (name bytes : List ℕ)
    → IsFetched files name (file_limit by k) bytes → length bytes ≤ file_limit by k
    → GivesWhole by files k name (Ok bytes)
gives_bytes by files k name bytes fetched l told tells =
    let found = file_found by told k name bytes (told name) refl (rw tells at fetched) in
    let is_file : bytes ≡ found.0 = found.2 ∙ take_all (file_limit by k + 1) found.0
    (omega (arith, length-take (file_limit by k + 1) found.0, ap length found.2)) in
    rw (found.1, ← is_file, le-leb (length bytes) (file_limit by k) l) refl

-- and otherwise the file is refused for its size
gives_fault : (by : Limits) (files : Option Files) (k : FileKind) (name bytes : List ℕ)
    → IsFetched files name (file_limit by k) bytes → file_limit by k < length bytes
    → GivesWhole by files k name (Err (fault_at k 0 fault.FileSize))
gives_fault by files k name bytes fetched l told tells =
    let found = file_found by told k name bytes (told name) refl (rw tells at fetched) in
    let long : file_limit by k < length found.0 = omega (arith, length-take (file_limit by k + 1) found.0, ap length found.2) in
    rw (found.1, lt-leb (length found.0) (file_limit by k) long) refl

-- no limit is greater than a fetch can have
limit_is_small : (by : Limits) (k : FileKind) → file_limit by k < 2 ^ 32
limit_is_small limits.Standard file.Banks = omega arith
limit_is_small limits.Standard k = omega arith
limit_is_small limits.Wide file.Banks = omega arith
limit_is_small limits.Wide k = omega arith

pub fetch-requires : goal.fetch-requires
fetch-requires g c = rw c.bytes-limit.ensures (limit_is_small c.args.by c.args.kind)

pub returns-in-Ok-clause-file : goal.returns-in-Ok-clause-file
returns-in-Ok-clause-file g c =
    gives_bytes c.args.by _ c.args.kind _ c.in-Ok.bytes.items
    (rw (← c.bytes-limit.ensures) c.in-Ok.ensures.fetched) (omega (arith, c.bytes-limit.ensures))

pub returns-in-Ok-2-clause-stopped : goal.returns-in-Ok-2-clause-stopped
returns-in-Ok-2-clause-stopped g c =
    gives_fault c.args.by _ c.args.kind _ c.in-Ok.bytes.items
    (rw (← c.bytes-limit.ensures) c.in-Ok.ensures.fetched) (omega (arith, c.bytes-limit.ensures))
