use Rattle.rv_diagram.specs.Nodes.{value_of}
use Rattle.rv_left.proofs.Sharing.{either_of_both}
use Rattle.rv_left.proofs.meeting.meets_in.Goals as goal

pub returns-clause-exact : goal.returns-clause-exact
returns-clause-exact c =
    either_of_both (value_of c.args.store.now.nodes c.args.a) (value_of c.args.store.now.nodes c.args.b)
    (value_of c.and.new.self.nodes c.in_ok-both.both) c.in_ok-is_met.field-0 c.in_ok-both.ensures.ok.means c.in_ok-is_met.ensures
