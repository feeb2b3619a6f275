use Rattle.std.proofs.{Common.◌∙◌, Math.Path.fun_ext}
use Rattle.rv_diagram.specs.Nodes.{value_of}
use Rattle.rv_symbolic.proofs.Extending.{map_ok}
use Rattle.rv_walk.specs.Ends.{has}
use Rattle.rv_left.specs.Meeting.{IsEither}
use Rattle.rv_left.proofs.Sharing.{either_same}
use Rattle.rv_left.proofs.meeting.sets_meet_in.Goals as goal

pub returns-clause-exact : goal.returns-clause-exact
returns-clause-exact c =
    map_ok c.meets.result
    (IsEither (value_of c.thaw-2.new.self.nodes c.in_ok-one.one) (value_of c.thaw-2.new.self.nodes c.in_ok-other.other))
    (IsEither (has c.args.a.now) (has c.args.b.now))
    (λ met h. either_same (value_of c.thaw-2.new.self.nodes c.in_ok-one.one) (value_of c.thaw-2.new.self.nodes c.in_ok-other.other)
    (has c.args.a.now) (has c.args.b.now) met
    (fun_ext (λ v. c.in_ok-other.ensures.ok.grows.kept c.in_ok-one.one c.in_ok-one.ensures.ok.found v ∙ c.in_ok-one.ensures.ok.means v))
    (fun_ext c.in_ok-other.ensures.ok.means) h)
    c.meets.ensures.exact
