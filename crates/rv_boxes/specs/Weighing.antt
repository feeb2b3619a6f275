-- Weights in the order of their premises.
use Rattle.std.specs.Prelude.{◌≡◌, ℕ, ◌<◌, ◌≤◌, List, [], ◌∷◌, ◌++◌, take, drop, length, All}
use Rattle.rv_rows.specs.declared.farkas.Weight.{Weight}

-- each weight stands on a later premise than those before it
abbrev pub Rises : List Weight → Type 0
Rises [] = Unit {0}
Rises (w ∷ ws) = All (λ u. w.premise < u.premise) ws × Rises ws

-- The weights have one more, which stands between those on earlier premises and those on later ones.
pub record IsInserted (old : List Weight) (w : Weight) (new : List Weight) : Type 0 where
  pub at : ℕ
  pub inside : at ≤ length old
  pub is : new ≡ take at old ++ w ∷ drop at old
  pub before : All (λ u. u.premise < w.premise) (take at old)
  pub after : All (λ u. w.premise ≤ u.premise) (drop at old)
