-- Names by their numbers, and what goes by them.
use Rattle.std.specs.Prelude.{◌≡◌, ℕ, ◌+◌, cond, unwrap_or, List, [], ◌∷◌, length, Option, Some}
use Rattle.std.specs.HashMap as hash
use Rattle.rv_tree.specs.Places.{Identifier, is_same, index_of}
use Rattle.rv_meaning.specs.declared.numbers.Numbers.{Numbers}

-- what a table has for a name once names were entered from the last to the first, each with its number from a number on
abbrev pub entered : ℕ → List Identifier → Option ℕ → Identifier → Option ℕ
entered k [] before x = before
entered k (y ∷ ys) before x = cond (is_same y x) (Some k) (entered (k + 1) ys before x)

-- the number of a name; that of them all for another one
abbrev pub number_in : Numbers → Identifier → ℕ
number_in m x = unwrap_or (hash.get is_same m.numbers x) m.count

-- These are the numbers of the names.
pub record AreNumbers (xs : List Identifier) (m : Numbers) : Type 0 where
  pub count : m.count ≡ length xs
  pub number : (x : Identifier) → number_in m x ≡ index_of xs x
