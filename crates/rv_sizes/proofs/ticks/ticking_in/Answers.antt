use Rattle.std.proofs.Common.{◌≡◌, ◌++◌, List, map, flat_map, ◌∙◌, ap}
use Rattle.rv_tree.specs.declared.tree.Node as declared
use Rattle.rv_tree.specs.Tree.{node_tree}
use Rattle.rv_instances.specs.{Expanded.told, Expanded.calls_told, Timed.operator_listed, Timed.operators_told, declared.timed.ClockedCall.ClockedCall}
use Rattle.rv_instances.specs.{declared.timed.ClockedOperator.ClockedOperator}
use Rattle.rv_sizes.specs.TickWalk.{handed_told, ticks_on_base}
use Rattle.rv_sizes.proofs.TickWalks.{ticks_found}
use Rattle.rv_sizes.proofs.ticks.ticking_in.Goals as goal

pub returns : goal.returns
returns c =
    let n = node_tree c.args.node.now in
    let on_base = ticks_on_base c.args.names.now c.args.bases.now in
    let operators : map operator_listed c.as_slice.result.now ≡ operators_told n =
    ap (λ (os : List ClockedOperator). map operator_listed os) c.as_slice.ensures ∙ c.in_ok-calls.ensures.operators
    ∙ ap (λ (m : declared.Node). operators_told (node_tree m)) c.in_ok-clocks.ensures in
    let calls : map told c.as_slice-2.result.now ≡ calls_told n =
    ap (λ (cs : List ClockedCall). map told cs) c.as_slice-2.ensures ∙ c.in_ok-calls.ensures.calls
    ∙ ap (λ (m : declared.Node). calls_told (node_tree m)) c.in_ok-clocks.ensures in
    c.in_ok-add_handed.ensures
    ∙ (λ i. c.in_ok-found.ensures i ++ flat_map (handed_told on_base) (map told c.as_slice-2.result.now))
    ∙ ticks_found n on_base (map operator_listed c.as_slice.result.now) (map told c.as_slice-2.result.now) operators calls
