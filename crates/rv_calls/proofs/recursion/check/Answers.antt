use Rattle.std.proofs.Common.{◌≡◌, ◌∙◌, ap, sym, subst}
use Rattle.rv_tree.specs.Tree.{program_tree}
use Rattle.rv_calls.specs.{Graphs.Graph, Graphs.IsGraph, Graphs.IsOrdered, Callings.call_graph, Callings.callings_of, Loops.IsRecursion}
use Rattle.rv_calls.proofs.{Recursions.no_recursion, Recursions.recursion_of, Recursions.is_graph, Lowering.ordered_no_loop}
use Rattle.rv_calls.proofs.recursion.check.Goals as goal

pub node_order-requires-clause-known : goal.node_order-requires-clause-known
node_order-requires-clause-known c =
    subst IsGraph (sym (c.in_ok-graph.ensures ∙ ap call_graph c.in_ok-calls.ensures)) (is_graph (program_tree c.args.p.now) c.requires.named)

pub returns-in-Ok-clause-ordered : goal.returns-in-Ok-clause-ordered
returns-in-Ok-clause-ordered c =
    let p = program_tree c.args.p.now in
    let g : c.in_ok-graph.graph ≡ call_graph (callings_of p) = c.in_ok-graph.ensures ∙ ap call_graph c.in_ok-calls.ensures in
    let ordered : IsOrdered (call_graph (callings_of p)) c.in-Ok.order = subst (λ (g : Graph). IsOrdered g c.in-Ok.order) g c.in-Ok.ensures.ordered in
    record {
      recursion = no_recursion p c.requires.named (ordered_no_loop (callings_of p) c.in-Ok.order ordered);
      names = c.in_ok-names.ensures;
      calls = c.in_ok-calls.ensures;
      order = ordered;
    }

pub returns-in-Err-clause-recursive : goal.returns-in-Err-clause-recursive
returns-in-Err-clause-recursive c =
    let p = program_tree c.args.p.now in
    let g : c.in_ok-graph.graph ≡ call_graph (callings_of p) = c.in_ok-graph.ensures ∙ ap call_graph c.in_ok-calls.ensures in
    recursion_of p c.requires.named c.in-Err.fault
    (subst (λ t. IsRecursion (call_graph (callings_of p)) t c.in-Err.fault) c.in_ok-calls.ensures
    (subst (λ (h : Graph). IsRecursion h c.in_ok-calls.calls c.in-Err.fault) g c.in-Err.ensures.recursive))
