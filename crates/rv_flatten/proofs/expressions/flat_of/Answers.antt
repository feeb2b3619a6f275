use Rattle.std.proofs.Common.{ap, ◌∙◌}
use Rattle.rv_tree.specs.Tree.{tree_of}
use Rattle.rv_instances.specs.Expanded.{program_of, main_of}
use Rattle.rv_flat.specs.RawTree.{raw_tree}
use Rattle.rv_flatten.proofs.ReadTables.{part_read_is}
use Rattle.rv_flatten.proofs.expressions.flat_of.Goals as goal

pub returns : goal.returns
returns c numbers i frame ticks there typed =
    let x = c.args.frame.now in let e = x.expanded.now in
    ap raw_tree c.into_inner.ensures ∙ c.in_ok-made.ensures.flat ∙ part_read_is numbers i x frame
    (c.instance_numbers.ensures (program_of e) (main_of e) e.instances.now x.reader.layout.now x.reader.instance i frame.known.expanded frame.layout
    frame.instance frame.number) ticks (tree_of c.args.e.now) there typed
