-- The first declarations of different names, of those in a list.
use Rattle.std.specs.Prelude.{cond, List, [], ◌∷◌, ◌++◌}
use Rattle.rv_tree.specs.declared.tree.Name.{Name}
use Rattle.rv_types.specs.Names.{is_declared}

-- with one more, where no other declares its name
abbrev pub with_name : List Name → Name → List Name
with_name xs x = cond (is_declared xs x.text) xs (xs ++ x ∷ [])

-- and with more
abbrev pub firsts_after : List Name → List Name → List Name
firsts_after before [] = before
firsts_after before (x ∷ xs) = firsts_after (with_name before x) xs

abbrev pub firsts : List Name → List Name
firsts xs = firsts_after [] xs
