-- A type put into a list of them.
use Rattle.std.proofs.Common.{◌≡◌, ◌<◌, List, [], ◌∷◌, ◌++◌, length, refl, ap, arith, slice_set}
use Rattle.rv_types.specs.declared.typed.Kind.{Kind}

-- what is put where a list goes on stands there
pub put_between : (before after : List Kind) (k j : Kind) → slice_set (before ++ k ∷ after) (length before) j ≡ before ++ j ∷ after
put_between [] after k j = refl
put_between (b ∷ bs) after k j = ap (λ (l : List Kind). b ∷ l) (put_between bs after k j)

-- that place is in the list
pub there : (before after : List Kind) (k : Kind) → length before < length (before ++ k ∷ after)
there [] after k = omega arith
there (b ∷ bs) after k = let h = there bs after k in omega (arith, h)
