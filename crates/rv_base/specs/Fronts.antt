-- A list in two parts: a front, which other lists may share, and one last element.
use Rattle.std.specs.Prelude.{◌≡◌, ℕ, List, [], ◌∷◌, ◌++◌, Option, None, Some}

-- the front, or nothing
abbrev pub front_of : Option (List ℕ) → List ℕ
front_of None = []
front_of (Some front) = front

-- the last element, or nothing
abbrev pub last_of : Option ℕ → List ℕ
last_of None = []
last_of (Some last) = last ∷ []

-- the list of both parts
abbrev pub joined : Option (List ℕ) → Option ℕ → List ℕ
joined front last = front_of front ++ last_of last

-- where there is no last element, there is no front either
abbrev pub AreFilled : Option (List ℕ) → Option ℕ → Type 0
AreFilled front last = last ≡ None → front ≡ None
