use Rattle.std.proofs.Common.{◌<◌, ℕ, List, map, sym, ◌∙◌, ap, subst, arith}
use Rattle.std.specs.List.{Contains}
use Rattle.rv_tree.specs.Places.{Sites}
use Rattle.rv_calls.specs.Graphs.{IsSortedOf, IsLoop, IsOrdered}
use Rattle.rv_sequence.specs.{Cycles.IsCycleFromLeast, FlowGraphs.AreTurned}
use Rattle.rv_instances.specs.Flowing.{place_at, flow_places}
use Rattle.rv_sequence.proofs.Sequences.{ordered_sequence, turned_cycle, turned_within}
use Rattle.rv_sequence.proofs.sequence.evaluation.Goals as goal

pub places_of-requires-clause-numbers : goal.places_of-requires-clause-numbers
places_of-requires-clause-numbers c k w =
    let size = c.requires.size in
    let l : IsLoop c.args.graph.now c.in-Looped.found = subst (IsSortedOf c.args.graph.now) c.in-Looped.is c.in_ok-order.ensures in
    let t : AreTurned c.in-Looped.found c.in_ok-turned-in-Looped.turned = subst (λ (old : List ℕ). AreTurned old c.in_ok-turned-in-Looped.turned)
    c.as_slice.ensures c.in_ok-turned-in-Looped.ensures in
    let lt = turned_within c.args.graph.now c.requires.vertices c.in-Looped.found c.in_ok-turned-in-Looped.turned l t k
    (subst (λ (l : List ℕ). Contains l k) c.as_slice-in-Looped.ensures w) in
    subst (λ n. k < n) size lt

pub returns-in-Ordered-clause-within : goal.returns-in-Ordered-clause-within
returns-in-Ordered-clause-within c j lt =
    let size = c.requires.size in
    let o : IsOrdered c.args.graph.now c.in-Ordered.order = subst (IsSortedOf c.args.graph.now) c.in-Ordered.is c.in_ok-order.ensures in
    let only = o.only j lt in
    omega (arith, only, size)

pub returns-in-Ordered-clause-sequence : goal.returns-in-Ordered-clause-sequence
returns-in-Ordered-clause-sequence c p main f =
    let places = flow_places c.args.instances.now c.args.flows.now in
    let o : IsOrdered c.args.graph.now c.in-Ordered.order = subst (IsSortedOf c.args.graph.now) c.in-Ordered.is c.in_ok-order.ensures in
    ordered_sequence p main places c.args.graph.now f c.in-Ordered.order o

pub returns-in_ok-places_of-in-Looped-clause-cycle : goal.returns-in_ok-places_of-in-Looped-clause-cycle
returns-in_ok-places_of-in-Looped-clause-cycle c p main f =
    let places = flow_places c.args.instances.now c.args.flows.now in
    let l : IsLoop c.args.graph.now c.in-Looped.found = subst (IsSortedOf c.args.graph.now) c.in-Looped.is c.in_ok-order.ensures in
    let t : AreTurned c.in-Looped.found c.in_ok-turned-in-Looped.turned = subst (λ (old : List ℕ). AreTurned old c.in_ok-turned-in-Looped.turned)
    c.as_slice.ensures c.in_ok-turned-in-Looped.ensures in
    subst (λ (s : List Sites). IsCycleFromLeast p main s) (sym (c.in_ok-places_of-in-Looped.ensures ∙ ap (map (place_at places)) c.as_slice-in-Looped.ensures))
    (turned_cycle p main places c.args.graph.now f c.requires.vertices c.in-Looped.found c.in_ok-turned-in-Looped.turned l t)
