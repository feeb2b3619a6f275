-- An element put into a list of which it is known how it is listed.
use Rattle.std.proofs.Common.{◌≡◌, ℕ, ◌+◌, ◌<◌, List, ◌∷◌, ◌++◌, map, length, ◌∙◌, ap, arith, slice_set}
use Rattle.std.proofs.{lemmas.List.length-map, lemmas.List.length-append, lemmas.List.map-set, Math.Seq.set-append_seam}

-- what is put where a list goes on stands there
pub put_listed : {X Y : Type 0} (f : X → Y) (xs : List X) (before after : List Y) (c : Y) (n : ℕ) (x : X) → n ≡ length before
    → map f xs ≡ before ++ c ∷ after → map f (slice_set xs n x) ≡ before ++ f x ∷ after
put_listed f xs before after c n x at is = map-set f xs n x ∙ (λ i. slice_set (is i) (at i) (f x)) ∙ set-append_seam before c after (f x)

-- that place is in the list
pub within : {X Y : Type 0} (f : X → Y) (xs : List X) (before after : List Y) (c : Y) (n : ℕ) → n ≡ length before → map f xs ≡ before ++ c ∷ after
    → n < length xs
within f xs before after c n at is =
    let size : length (map f xs) ≡ length xs = length-map xs f in
    let long : length (before ++ c ∷ after) ≡ length before + length (c ∷ after) = length-append before (c ∷ after) in
    let same : length (map f xs) ≡ length (before ++ c ∷ after) = ap length is in
    omega (arith, at, size, long, same)
