use Rattle.std.proofs.{lemmas.Result.err_from_is_err_and}
use Rattle.std.proofs.Common.{List}
use Rattle.rv_tree.specs.{declared.tree.Decl.Decl, declared.tree.Node.Node, Tree.node_tree}
use Rattle.rv_syntax.specs.{declared.rules.Body.Body, declared.rules.Signature.Signature, Reads.same, Reading.statements}
use Rattle.rv_syntax.proofs.Loop.{node-stops-at-signature, node-stops-at-vars, node-stops-at-body, whole-node, stop-through}
use Rattle.rv_syntax.proofs.rules.read_node.Goals as goal

pub returns-in_err-signature : goal.returns-in_err-signature
returns-in_err-signature c =
    let p = err_from_is_err_and c.from_residual.result c.from_residual.ensures.1 in
    rw (p.1, p.2) (stop-through {X = Node} {Y = Signature} node_tree same _ _ (node-stops-at-signature c.args.parser.now.rest) c.in_err-signature.ensures)

pub returns-in_err-locals : goal.returns-in_err-locals
returns-in_err-locals c =
    let p = err_from_is_err_and c.from_residual-in_err-locals.result c.from_residual-in_err-locals.ensures.1 in
    rw (p.1, p.2) (stop-through {X = Node} {Y = List Decl} node_tree same _ _ (node-stops-at-vars _ c.in_ok-signature.ensures) c.in_err-locals.ensures)

pub returns-in_err-body : goal.returns-in_err-body
returns-in_err-body c =
    let p = err_from_is_err_and c.from_residual-in_err-body.result c.from_residual-in_err-body.ensures.1 in
    rw (p.1, p.2) (stop-through {X = Node} {Y = Body} node_tree statements _ _
    (node-stops-at-body _ c.in_ok-signature.ensures c.in_ok-locals.ensures) c.in_err-body.ensures)

pub returns : goal.returns
returns c = whole-node _ c.in_ok-signature.ensures c.in_ok-locals.ensures c.in_ok-body.ensures
