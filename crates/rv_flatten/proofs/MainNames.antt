-- The name of the main node is that of a node.
use Rattle.std.proofs.Common.{◌≡◌, true, sym, ◌∙◌, ap}
use Rattle.rv_tree.specs.{Tree.ProgramTree, Places.Identifier, Places.is_among}
use Rattle.rv_types.specs.Instances.{IsNode}
use Rattle.rv_instances.specs.AllInstances.{names_of}
use Rattle.rv_flatten.proofs.InstanceNumbers.{name_texts}

pub is_node : (p : ProgramTree) (main : Identifier) → is_among (names_of p) main ≡ true → IsNode p main
is_node p main e = ap (λ l. is_among l main) (sym (name_texts p.nodes)) ∙ e
