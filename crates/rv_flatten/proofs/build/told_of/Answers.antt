use Rattle.std.proofs.Common.{map, sym, ◌∙◌, ap}
use Rattle.rv_tree.specs.Tree.{ProgramTree, NodeTree}
use Rattle.rv_types.specs.Names.{labels_of, texts}
use Rattle.rv_flatten.specs.Building.{program_given, main_given}
use Rattle.rv_flatten.proofs.{Assembled.main_name, Assembled.first_node, FlowTotals.some_instance}
use Rattle.rv_flatten.proofs.build.told_of.Goals as goal

pub node-main-requires-clause-within : goal.node-main-requires-clause-within
node-main-requires-clause-within c = some_instance (program_given c.args.given.now) (main_given c.args.given.now) c.args.given.now.expanded.now.instances.now
    c.requires.given.known.expanded

pub returns-clause-name : goal.returns-clause-name
returns-clause-name c =
    let p : ProgramTree = program_given c.args.given.now in
    let main = main_given c.args.given.now in let known = c.requires.given.known.expanded in
    let instances = c.args.given.now.expanded.now.instances.now in
    sym c.in_ok-name.ensures.cases ∙ ap (λ (n : NodeTree). n.name.text) (c.node-main.ensures ∙ first_node p main instances known)
    ∙ main_name p main instances known

pub returns-clause-labels : goal.returns-clause-labels
returns-clause-labels c = c.in_ok-labels.ensures ∙ ap (map (λ d. texts (labels_of d))) c.as_slice.ensures
