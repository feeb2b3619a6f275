use Rattle.std.proofs.Common.{◌≡◌, length, get_or, map, take, ◌∙◌, ap, arith, List}
use Rattle.std.proofs.Math.Seq.{take-length}
use Rattle.rv_instances.specs.{declared.givers.Giver.Giver, Expanded.program_of, Expanded.main_of}
use Rattle.rv_sequence.specs.Needed.{giver_needed}
use Rattle.rv_sequence.proofs.NeedsGraph.{is_giver, is_flow_graph, is_graph}
use Rattle.rv_sequence.proofs.flow_graph.flow_graph.Goals as goal

pub needs_of-requires-clause-giver : goal.needs_of-requires-clause-giver
needs_of-requires-clause-giver c =
    let x = c.args.expanded.now in
    let size = ap length c.as_slice-giver-items.ensures in
    let lt = c.loop-giver-test.true in
    is_giver (program_of x) (main_of x) x.instances.now c.requires.known.expanded c.args.layout.now c.requires.layout c.args.givers.now c.requires.givers
    c.loop-giver.giver-index c.giver-item.result
    (omega (arith, size, lt)) (c.giver-item.is ∙ ap (λ (l : List Giver). get_or l c.loop-giver.giver-index c.giver-item.result) c.as_slice-giver-items.ensures)

whole : (c : goal.After-loop-giver) → c.loop-giver.graph ≡ map (giver_needed (program_of c.args.expanded.now) c.args.expanded.now.instances.now
    c.args.layout.now) c.args.givers.now
whole c =
    let size = ap length c.as_slice-giver-items.ensures in
    let done = c.loop-giver-test.false in
    let end = c.loop-giver.auto.giver-index-end in
    let all : c.loop-giver.giver-index ≡ length c.args.givers.now = omega (arith, size, done, end) in
    c.loop-giver.invariant
    ∙ ap (λ k. map (giver_needed (program_of c.args.expanded.now) c.args.expanded.now.instances.now c.args.layout.now) (take k c.args.givers.now)) all
    ∙ ap (map (giver_needed (program_of c.args.expanded.now) c.args.expanded.now.instances.now c.args.layout.now)) (take-length c.args.givers.now)

pub returns-clause-vertices : goal.returns-clause-vertices
returns-clause-vertices c =
    let x = c.args.expanded.now in
    is_graph (program_of x) (main_of x) x.instances.now c.requires.known.expanded c.args.layout.now c.requires.layout c.args.givers.now c.requires.givers
    c.loop-giver.graph (whole c)

pub returns-clause-graph : goal.returns-clause-graph
returns-clause-graph c =
    let x = c.args.expanded.now in
    is_flow_graph (program_of x) (main_of x) x.instances.now c.requires.known.expanded c.args.layout.now c.requires.layout c.args.givers.now c.requires.givers
    c.loop-giver.graph (whole c)
