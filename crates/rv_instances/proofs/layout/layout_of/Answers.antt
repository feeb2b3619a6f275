use Rattle.rv_tree.specs.Tree.{program_tree}
use Rattle.rv_types.specs.Instances.{name_at}
use Rattle.rv_instances.proofs.ExpandedLaws.{are_paths}
use Rattle.rv_instances.proofs.layout.layout_of.Goals as goal

pub callees_of-requires : goal.callees_of-requires
callees_of-requires c =
    let x = c.args.expanded.now in let p = program_tree x.program.now in
    record { paths = are_paths p (name_at p x.main) x.instances.now c.requires.expanded; few = c.requires.expanded.few }
