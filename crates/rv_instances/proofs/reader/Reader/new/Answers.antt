use Rattle.std.proofs.Common.{length, ap, ◌∙◌, arith}
use Rattle.rv_tree.specs.{Places.flows, Tree.NodeTree}
use Rattle.rv_instances.specs.{declared.layout.Laid.Laid, Expanded.program_of, Expanded.main_of}
use Rattle.rv_instances.proofs.{BaseClocks.first_few, ExpandedLaws.node_few, LaidFlows.laid_size, LayoutLaws.laid_there}
use Rattle.rv_instances.proofs.reader.Reader.new.Goals as goal

pub returns-clause-reader : goal.returns-clause-reader
returns-clause-reader c =
    let x = c.args.expanded.now in let p = program_of x in let ins = x.instances.now in
    let m = c.args.instance in
    let size = ap length c.requires.layout.laid ∙ laid_size p ins (length ins) in
    let lt = c.requires.within in let based = c.requires.layout.bases in
    record {
      laid = omega (arith, size, lt);
      based = omega (arith, based, lt);
      callees = λ s k e. omega (arith, size, c.requires.layout.callees.within m s k e);
      room =
          let first = ap (λ (l : Laid). l.first) (laid_there p (main_of x) ins c.requires.known.expanded c.args.layout.now c.requires.layout m lt) in
          let node = ap (λ (n : NodeTree). length (flows n)) c.clocks.ensures in
          omega (arith, first, first_few p (main_of x) ins c.requires.known.expanded m lt, node_few p (main_of x) ins c.requires.known.expanded m lt, node);
    }
