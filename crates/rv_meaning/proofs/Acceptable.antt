-- Each instance of a well program is a copy of a node of it, which keeps the rules.
use Rattle.std.proofs.Common.{true, false, ◌||◌, cond, List, [], ◌∷◌, map, refl, Some, IsSome, IsTrue, unwrap_or}
use Rattle.std.specs.List.{Contains}
use Rattle.rv_tree.specs.{Tree.NodeTree, Tree.ProgramTree, Places.Identifier, Places.is_same, Places.is_among}
use Rattle.rv_types.specs.Instances.{Instance, no_node, node_of, IsInstance, is_main, is_callee, IsNode}
use Rattle.rv_types.specs.{WellFormed.IsWellFormed}
use Rattle.rv_types.specs.{WellFormed.IsWellTyped, WellFormed.AreWell, Kinds.node_among, Kinds.node_named}
use Rattle.rv_meaning.proofs.Rows.{no_flag}
use Rattle.rv_types.proofs.Members.{at_head, in_tail}

-- the first node of a name that is there is one of the nodes
pub named_among : (ns : List NodeTree) (f : Identifier) → IsSome (node_among ns f) → Contains ns (unwrap_or (node_among ns f) no_node)
named_among [] f h = absurd (no_flag h)
named_among (n ∷ ns) f h = elim (is_same n.name.text f)
    as (λ b. IsSome (cond b (Some n) (node_among ns f)) → Contains (n ∷ ns) (unwrap_or (cond b (Some n) (node_among ns f)) no_node))
    [ true ↦ λ h. at_head n ns | false ↦ λ h. in_tail n ns (unwrap_or (node_among ns f) no_node) (named_among ns f h) ] h

-- a name that some node has is there
pub some_among : (ns : List NodeTree) (f : Identifier) → IsTrue (is_among (map (λ n. n.name.text) ns) f) → IsSome (node_among ns f)
some_among [] f h = absurd (no_flag h)
some_among (n ∷ ns) f h = elim (is_same n.name.text f)
    as (λ b. IsTrue (b || is_among (map (λ n. n.name.text) ns) f) → IsSome (cond b (Some n) (node_among ns f)))
    [ true ↦ λ h. refl | false ↦ some_among ns f ] h

-- the node of a name that is there is one of the nodes
pub node_of_in : (program : ProgramTree) (f : Identifier) → IsSome (node_named program f) → Contains program.nodes (node_of program f)
node_of_in program f h = named_among program.nodes f h

-- and so is the main node
pub main_in : (program : ProgramTree) (main : Identifier) → IsNode program main → Contains program.nodes (node_of program main)
main_in program main h = node_of_in program main (some_among program.nodes main h)

module _ (program : ProgramTree) (main : Identifier) (well : AreWell program) (named : IsNode program main) where
  -- the node of each instance is one of the nodes
  pub node_in : (i : Instance) → IsInstance program main i → Contains program.nodes i.node
  node_in _ is_main = main_in program main named
  node_in _ (is_callee {i = i} c p at) = node_of_in program c.name ((well.formed i.node (node_in i p)).known c at)

  -- it is well formed
  pub formed : (i : Instance) → IsInstance program main i → IsWellFormed program i.node
  formed i p = well.formed i.node (node_in i p)

  -- and well typed
  pub typed : (i : Instance) → IsInstance program main i → IsWellTyped program i.node
  typed i p = well.typed i.node (node_in i p)
