use Rattle.rv_paths.proofs.Settings.{node_ordered, case_ordered}
use Rattle.rv_paths.proofs.search.end_by.Goals as goal

pub some_word-requires-clause-control : goal.some_word-requires-clause-control
some_word-requires-clause-control c =
    let (s, set) = c.requires.setting in
    node_ordered s c.args.store.now c.args.relation.now c.args.plan.now c.args.nodes.now c.args.turn.node c.at-node.result.now set c.at-node.ensures.value

pub some_word-requires-clause-condition : goal.some_word-requires-clause-condition
some_word-requires-clause-condition c =
    let (s, set) = c.requires.setting in
    case_ordered s c.args.store.now c.args.relation.now c.args.plan.now c.args.nodes.now c.args.turn.node c.args.turn.case c.cases_from.result.now
    c.at-case.result.now set c.cases_from.ensures c.at-case.ensures.value
