-- A cycle of flows as it is told.
use Rattle.std.specs.Prelude.{List}
use Rattle.rv_tree.specs.{Tree.ProgramTree, Places.Identifier, Places.Sites}
use Rattle.rv_types.specs.Needs.{IsCycle, StartsWithLeast}

-- a cycle, from its least place on
abbrev pub IsCycleFromLeast : ProgramTree → Identifier → List Sites → Type 0
IsCycleFromLeast p main ps = IsCycle p main ps × StartsWithLeast ps
