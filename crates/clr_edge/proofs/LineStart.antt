-- A line that is written from its end.
use Rattle.std.proofs.Common.{◌≡◌, ℕ, ◌+◌, ◌-◌, ◌≤◌, true, List, ◌∷◌, ◌++◌, length, length-append, length-drop, set, take, drop, ap, ◌∙◌, arith}
use Rattle.std.proofs.lemmas.List.{length-set, length-take-le, drop_at, drop-set}
use borrow.Rule.Slice.PartMut.{put_mid, post_of, Post-is}
use Rattle.clr_net.specs.Name.{is_name}

-- a name has no more bytes than a name may have
pub name_is_short : (name : List ℕ) → is_name name ≡ true → length name ≤ 64
name_is_short name h = grind arith

-- a line that leaves room starts that far from the front
pub starts_late : (bytes line : List ℕ) (start more : ℕ) → length bytes ≡ 256 → drop start bytes ≡ line → 1 ≤ more
    → length line + more ≤ 256 → more ≤ start
starts_late bytes line start more l e some room = omega (arith, length-drop start bytes, ap length e)

-- a byte is put before a line, and then other bytes before it
pub put_before : (bytes text : List ℕ) (mark start end : ℕ) → end + 1 ≡ start → start ≤ length bytes → length text ≤ end
    → drop (end - length text) (put_mid (end - length text) (end - (end - length text)) (set bytes end mark) text) ≡ text ++ mark ∷ drop start bytes
put_before bytes text mark start end next within fits =
    let first = end - length text in
    let marked = set bytes end mark in
    drop_at (take first marked) (text ++ post_of first (end - first) marked) first
    (length-take-le first marked (omega (arith, length-set bytes end mark)))
    ∙ ap (λ (l : List ℕ). text ++ l)
    (Post-is first end marked (omega arith) ∙ drop-set bytes end mark (omega arith) ∙ ap (λ (n : ℕ). mark ∷ drop n bytes) next)

-- a name and a comma make a line no longer than they may be
pub longer_by_name : (line name new : List ℕ) → new ≡ name ++ 44 ∷ line → length name ≤ 64 → length new ≤ length line + 65
longer_by_name line name new e short = omega (arith, ap length e, length-append name (44 ∷ line))
