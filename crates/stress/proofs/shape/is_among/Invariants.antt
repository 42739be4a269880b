use Rattle.std.proofs.Common.{◌≡◌, List, ℕ, drop, map}
use Rattle.std.specs.List.{list_any}
use Rattle.std.specs.Str.{bytes_eq}
use Rattle.stress.proofs.shape.is_among.Given as goal

abbrev pub invariant-loop-word : goal.invariant-loop-word
invariant-loop-word l = record {
  same : list_any (λ (word : List ℕ). bytes_eq word l.key) (map (λ w. w.now) l.words)
      ≡ list_any (λ (word : List ℕ). bytes_eq word l.key)
      (map (λ w. w.now) (drop l.word-index l.words));
}
