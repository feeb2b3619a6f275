-- Which parts of a source fit together.
use Rattle.std.specs.{Prelude.◌≡◌, Prelude.◌≤◌, List.Contains}
use Rattle.rv_tree.specs.{declared.tree.TypeDecl.TypeDecl, Tree.ProgramTree, Places.Identifier, SourceTrees.IsSourceTree}
use Rattle.rv_types.specs.{declared.typed.Typed.Typed, Instances.name_at, Instances.node_of, Lists.sites_of, Needs.IsSequence, Settled.IsAnswer}
use Rattle.rv_types.specs.{Values.label_count, Variables.over_instances, Variables.variable_count}
use Rattle.rv_instances.specs.Counts.{expanded, instance_count, integer_inputs, integer_memories}
use Rattle.rv_instances.specs.{declared.answer.Order.Order, AllInstances.AreCounted, Expanded.IsExpanded, Weights.AreLight}

-- The quantities of a program are within the limits that a flat system keeps: its instances, their expressions and integer
-- memories, the integer inputs of main, the labels of each enumeration, and the variables of its decision diagrams.
pub record AreFew (p : ProgramTree) (main : Identifier) : Type 0 where
  pub instances : instance_count p main ≤ 4000
  pub expressions : expanded p main ≤ 200000
  pub memories : over_instances p main (integer_memories p) ≤ 64
  pub inputs : integer_inputs p (node_of p main) ≤ 64
  pub labels : (d : TypeDecl) → Contains p.types d → label_count d ≤ 256
  pub variables : variable_count p main ≤ 4096

-- The tree is that of a source; the types, clocks and constants are those of the program; its instances are known, and those
-- over which quantities are counted are all of them; the sequence is one of its flows; no expression is too wide; the
-- quantities are within the limits; and the number of expressions is told.
pub record Fits (p : ProgramTree) (t : Typed) (o : Order) : Type 0 where
  pub tree : IsSourceTree p
  pub settled : IsAnswer p t
  pub instances : IsExpanded p (name_at p t.main) o.instances
  pub counted : AreCounted p (name_at p t.main)
  pub sequence : IsSequence p (name_at p t.main) (sites_of o.sequence)
  pub light : AreLight p (name_at p t.main)
  pub few : AreFew p (name_at p t.main)
  pub nodes : o.expanded ≡ expanded p (name_at p t.main)
