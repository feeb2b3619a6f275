use Rattle.std.proofs.Common.{◌≡◌, List, IfOk, subst}
use Rattle.rv_tree.specs.Tree.{node_tree}
use Rattle.rv_types.specs.{declared.typed.Kind.Kind, Readings.view_of, Tables.scope_of}
use Rattle.rv_types.proofs.DelayedKinds.{in_node}
use Rattle.rv_types.proofs.delayed.delay_kinds.Goals as goal

pub returns : goal.returns
returns c =
    subst (λ (l : List Kind). IfOk c.walked.result (λ (ks : List Kind). ks ≡ l))
    (in_node (scope_of (view_of c.args.tables.now c.args.own.now)) (node_tree c.args.node.now)) c.walked.ensures
