use Rattle.rv_diagram.specs.Nodes.{value_of}
use Rattle.rv_symbolic.proofs.Extending.{needed_same}
use Rattle.rv_symbolic.proofs.steps.copied.Goals as goal

pub returns-clause-needed : goal.returns-clause-needed
returns-clause-needed c =
    needed_same c.in_ok-frozen.field-0.nodes (value_of c.thaw.new.self.nodes c.in_ok-r.r) (value_of c.args.whole.now.nodes c.args.whole.now.root)
    c.in_ok-r.ensures.ok.means c.in_ok-frozen.ensures.needed
