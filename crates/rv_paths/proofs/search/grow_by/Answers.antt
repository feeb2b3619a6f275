use Rattle.std.proofs.{Common.Option, Common.IfSome, Common.subst, lemmas.List.Elements.All-push}
use Rattle.rv_proofs.specs.Ranges.{IsControlSet}
use Rattle.rv_paths.specs.declared.tree.Node.{Node}
use Rattle.rv_paths.proofs.search.grow_by.Goals as goal

pub returns-in_ok-push-in-Some-clause-nodes : goal.returns-in_ok-push-in-Some-clause-nodes
returns-in_ok-push-in-Some-clause-nodes c s set =
    let control : IsControlSet s c.in-Some.node.control = subst (λ (o : Option Node). IfSome o (λ n. IsControlSet s n.control)) c.in-Some.is
    (c.in_ok-node.ensures.control s set) in
    rw c.in_ok-push-in-Some.ensures.ok (All-push (λ (n : Node). IsControlSet s n.control) c.args.nodes.now c.in-Some.node set.nodes control)
