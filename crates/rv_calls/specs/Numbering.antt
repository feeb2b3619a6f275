-- Lists of different names.
use Rattle.std.specs.Prelude.{cond, List, [], ◌∷◌, ◌++◌}
use Rattle.rv_tree.specs.Places.{Identifier, is_among}

-- the names with one more, where it is not among them
abbrev pub with_name : List Identifier → Identifier → List Identifier
with_name xs x = cond (is_among xs x) xs (xs ++ x ∷ [])

-- and with more
abbrev pub with_names : List Identifier → List Identifier → List Identifier
with_names xs [] = xs
with_names xs (y ∷ ys) = with_names (with_name xs y) ys
