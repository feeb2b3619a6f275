-- The calls of a right side are calls of the node.
use Rattle.std.proofs.lemmas.List.Elements.{Contains-append_left}
use Rattle.std.specs.List.{Contains}
use Rattle.rv_tree.specs.Tree.{EquationTree, NodeTree}
use Rattle.rv_types.specs.Instances.{CallTree, calls, calls_in, calls_in_equations, calls_in_assertions}
use Rattle.rv_types.proofs.TypedParts.{right_calls}

-- the calls of an equation are calls of the node
pub call_of_equation : (n : NodeTree) (q : EquationTree) (d : CallTree) → Contains n.equations q → Contains (calls_in q.right) d → Contains (calls n) d
call_of_equation n q d w inner = Contains-append_left (calls_in_equations n.equations) (calls_in_assertions n.assertions) d
    (right_calls n.equations q d w inner)
