use Rattle.std.proofs.Common.{◌<◌, length, sym, ◌∙◌, ap, subst}
use Rattle.rv_calls.specs.{Graphs.Graph, Graphs.IsGraph, Graphs.IsLoop, Graphs.IsSortedOf, Callings.callees, Components.AreComponents, Loops.IsFirstLoop}
use Rattle.rv_calls.proofs.Lowering.{callee_within, first_found, none_found}
use Rattle.rv_instances.proofs.Lists.{length_map}
use Rattle.rv_calls.proofs.recursion.node_order.Goals as goal

pub first_back-requires-clause-nodes : goal.first_back-requires-clause-nodes
first_back-requires-clause-nodes c = (c.in_ok-parts-in-Looped.ensures).size ∙ ap length c.requires.graph ∙ length_map callees c.args.table.now

pub first_back-requires-clause-callees : goal.first_back-requires-clause-callees
first_back-requires-clause-callees c k d lt w =
    subst (λ n. d.callee < n) (sym ((c.in_ok-parts-in-Looped.ensures).size ∙ ap length c.requires.graph))
    (callee_within c.args.table.now (subst IsGraph c.requires.graph c.requires.known) k d lt w)

pub unreachable-requires : goal.unreachable-requires
unreachable-requires c =
    none_found c.args.table.now (subst IsGraph c.requires.graph c.requires.known) c.in_ok-parts-in-Looped.parts
    (subst (λ (g : Graph). AreComponents g c.in_ok-parts-in-Looped.parts) c.requires.graph c.in_ok-parts-in-Looped.ensures)
    c.in-Looped.field-0 c.first_back.result
    (subst (λ g. IsLoop g c.in-Looped.field-0) c.requires.graph (subst (λ s. IsSortedOf c.args.graph.now s) c.in-Looped.is c.in_ok-nodes.ensures))
    c.first_back.ensures c.in-None.is

pub returns-in-Some-clause-recursive : goal.returns-in-Some-clause-recursive
returns-in-Some-clause-recursive c =
    subst (λ (g : Graph). IsFirstLoop g c.args.table.now c.in-Some.at) (sym c.requires.graph)
    (first_found c.args.table.now (subst IsGraph c.requires.graph c.requires.known) c.in_ok-parts-in-Looped.parts
    (subst (λ (g : Graph). AreComponents g c.in_ok-parts-in-Looped.parts) c.requires.graph c.in_ok-parts-in-Looped.ensures)
    c.in-Some.at c.in-Some.ensures)
