use Rattle.std.proofs.Common.{◌≡◌, ◌∙◌, ap}
use Rattle.rv_diagram.specs.Nodes.{Diagrams}
use Rattle.rv_paths.proofs.Settings.{relation_variables, ordered_there}
use Rattle.rv_paths.proofs.planning.other_states.Goals as goal

pub without-requires-clause-a : goal.without-requires-clause-a
without-requires-clause-a c =
    let (s, of, first, layers) = c.requires in
    let here = relation_variables s c.args.store.now c.args.relation.now of in
    let there : c.with_layers.new.store.variables ≡ s.variables = ap (λ (d : Diagrams). d.variables) c.with_layers.ensures.same ∙ here in
    let initial = c.in_ok-initial.ensures s of in
    let reached = c.in_ok-reached.ensures.control s here initial.control layers in
    ordered_there s c.with_layers.new.store c.in_ok-reached.reached there reached.ordered

pub without-requires-clause-b : goal.without-requires-clause-b
without-requires-clause-b c =
    let (s, of, first, layers) = c.requires in
    let here = relation_variables s c.args.store.now c.args.relation.now of in
    let there : c.with_layers.new.store.variables ≡ s.variables = ap (λ (d : Diagrams). d.variables) c.with_layers.ensures.same ∙ here in
    ordered_there s c.with_layers.new.store c.args.first.now there first.ordered

pub returns-clause-control : goal.returns-clause-control
returns-clause-control c s of first layers =
    let here = relation_variables s c.args.store.now c.args.relation.now of in
    let there : c.with_layers.new.store.variables ≡ s.variables = ap (λ (d : Diagrams). d.variables) c.with_layers.ensures.same ∙ here in
    let initial = c.in_ok-initial.ensures s of in
    c.without.ensures.control s there (c.in_ok-reached.ensures.control s here initial.control layers) first
