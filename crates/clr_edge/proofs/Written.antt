-- What several puts leave written.
use Rattle.std.proofs.Common.{◌≡◌, ℕ, ◌+◌, List, ◌++◌, take, drop, Option, Some, None, refl, sym, ◌∙◌, ap, append_assoc}
use Rattle.std.proofs.Math.Seq.{take-add}
use Rattle.clr_edge.specs.Sink.{with_bytes}

-- a front, and then the front of what is left, are a longer front
pub with_bytes-front : (written : Option (List ℕ)) (bytes : List ℕ) (m n : ℕ)
    → with_bytes (with_bytes written (take m bytes)) (take n (drop m bytes)) ≡ with_bytes written (take (m + n) bytes)
with_bytes-front None bytes m n = refl
with_bytes-front (Some w) bytes m n =
    ap (λ (l : List ℕ). Some l) (append_assoc w (take m bytes) (take n (drop m bytes)) ∙ ap (λ (l : List ℕ). w ++ l) (sym (take-add m n bytes)))
