-- What holds of all_from element of a list, and the name of the main node.
use Rattle.std.proofs.Common.{Bool, true, false, ◌||◌, cond, List, [], ◌∷◌, map, refl, Some, IsTrue, IsSome}
use Rattle.rv_tree.specs.{Tree.NodeTree, Tree.ProgramTree, Places.Identifier, Places.is_among, Places.is_same}
use Rattle.rv_types.specs.{Kinds.node_among, Kinds.node_named, Instances.IsNode}

-- the main node has a name
pub named_some : (p : ProgramTree) (main : Identifier) → IsNode p main → IsSome (node_named p main)
named_some p main h = some p.nodes h
  where
    some : (ns : List NodeTree) → IsTrue (is_among (map (λ n. n.name.text) ns) main) → IsSome (node_among ns main)
    some [] h = absurd (let different : ⊥ = cc in different)
    some (n ∷ ns) h = tested (is_same n.name.text main) h (some ns)
      where
        tested : (b : Bool) → IsTrue (b || is_among (map (λ n. n.name.text) ns) main)
            → (IsTrue (is_among (map (λ n. n.name.text) ns) main) → IsSome (node_among ns main)) → IsSome (cond b (Some n) (node_among ns main))
        tested true h again = refl
        tested false h again = again h
