use Rattle.std.proofs.Common.{◌∙◌, ap}
use Rattle.rv_diagram.specs.Nodes.{Diagrams}
use Rattle.rv_paths.proofs.Settings.{node_control, case_there, relation_variables, next_control}
use Rattle.rv_paths.proofs.search.next_by.Goals as goal

pub image-requires : goal.image-requires
image-requires c =
    let (s, set) = c.requires.setting in (
      s,
      set.relation,
      node_control s c.args.nodes.now c.args.turn.node c.at-node.result.now set.nodes c.at-node.ensures.value,
      case_there s c.args.plan.now c.args.turn.node c.args.turn.case c.cases_from.result.now c.at-case.result.now set.plan c.cases_from.ensures
          c.at-case.ensures.value,
    )

pub node_of-requires-clause-setting : goal.node_of-requires-clause-setting
node_of-requires-clause-setting c =
    let (s, set) = c.requires.setting in
    let image = c.in_ok-control.ensures.exact s set.relation
    (node_control s c.args.nodes.now c.args.turn.node c.at-node.result.now set.nodes c.at-node.ensures.value)
    (case_there s c.args.plan.now c.args.turn.node c.args.turn.case c.cases_from.result.now c.at-case.result.now set.plan c.cases_from.ensures
    c.at-case.ensures.value) in (
      s,
      ap (λ (d : Diagrams). d.variables) c.image.ensures.same ∙ relation_variables s c.args.store.now c.args.relation.now set.relation,
      set.nodes,
      image.control,
    )

pub returns-clause-control : goal.returns-clause-control
returns-clause-control c s set =
    let image = c.in_ok-control.ensures.exact s set.relation
    (node_control s c.args.nodes.now c.args.turn.node c.at-node.result.now set.nodes c.at-node.ensures.value)
    (case_there s c.args.plan.now c.args.turn.node c.args.turn.case c.cases_from.result.now c.at-case.result.now set.plan c.cases_from.ensures
    c.at-case.ensures.value) in
    next_control s c.in_ok-control.control c.node_of.result image.control c.node_of.ensures.control
