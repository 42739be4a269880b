-- Desks that are given other cash one after another.
use Rattle.std.proofs.Common.{◌≡◌, ℕ, ◌+◌, ◌<◌, List, [], ◌∷◌, ◌++◌, drop, length, map, take, get_or, refl, ap, ◌∙◌, arith}
use Rattle.std.proofs.Math.Seq.{take-append_seam}
use Rattle.std.proofs.lemmas.List.{drop_more, get_or_at, length-map, length-take}
use Rattle.clr_net.specs.Net.{Net}
use Rattle.bank_desk.specs.Desks.{BankView, with_cash_in}
use Rattle.bank_worker.specs.Views.{banks_of}

-- other cash changes no bank
pub same_banks : (net : Net) (desks : List BankView) → banks_of (map (with_cash_in net) desks) ≡ banks_of desks
same_banks net [] = refl
same_banks net (d ∷ desks) = ap (λ bs. d.bank ∷ bs) (same_banks net desks)

-- an item that comes after those that are changed is as it was
pub still_here : {A : Type 0} (f : A → A) (xs ys : List A) (i : ℕ) (d : A) → i < length xs
    → ys ≡ map f (take i xs) ++ drop i xs → get_or ys i d ≡ get_or xs i d
still_here f xs ys i d lt e =
    let size : length (map f (take i xs)) ≡ i = omega (arith, length-map (take i xs) f, length-take i xs) in
    ap (λ zs. get_or zs i d) (e ∙ ap (λ zs. map f (take i xs) ++ zs) (drop_more xs i d lt))
    ∙ get_or_at (map f (take i xs)) (get_or xs i d) (drop (i + 1) xs) d i size

-- a list that was written over from its start to its end
pub written_over : {A : Type 0} (n : ℕ) (into items : List A) → n ≡ length into → take n (into ++ drop (length into) items) ≡ into
written_over n into items e = ap (λ m. take m (into ++ drop (length into) items)) e ∙ take-append_seam into (drop (length into) items)
