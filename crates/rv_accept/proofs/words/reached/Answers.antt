use Rattle.rv_diagram.specs.Nodes.{value_of}
use Rattle.rv_symbolic.proofs.Extending.{needed_same}
use Rattle.rv_accept.proofs.Moving.{reads_reached}
use Rattle.rv_accept.proofs.words.reached.Goals as goal

pub returns-clause-states : goal.returns-clause-states
returns-clause-states c = λ n reads. reads_reached c.args.set.now c.in_ok-kept.field-0 n
    (needed_same c.in_ok-kept.field-0.nodes (value_of c.thaw.new.self.nodes c.in_ok-r.r) (value_of c.args.set.now.nodes c.args.set.now.root)
    c.in_ok-r.ensures.ok.means c.in_ok-kept.ensures.needed) reads
