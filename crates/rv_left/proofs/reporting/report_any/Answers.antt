use Rattle.std.proofs.Common.{Bool, sym, subst}
use Rattle.rv_diagram.specs.Nodes.{Diagrams, IsOrderedOver}
use Rattle.rv_symbolic.specs.Represented.{IsRelationOf}
use Rattle.rv_walk.specs.Ends.{has}
use Rattle.rv_left.specs.Meeting.{IsEither, AreApart, Meets}
use Rattle.rv_left.proofs.Certified.{none_right, plain_none}
use Rattle.rv_left.proofs.reporting.report_any.Goals as goal

pub sets_meet-requires-clause-a : goal.sets_meet-requires-clause-a
sets_meet-requires-clause-a c =
    subst (λ m. IsOrderedOver m c.args.reached.now) (sym c.requires.given.1.parts.variables) c.requires.given.2.control.ordered

pub sets_meet-requires-clause-b : goal.sets_meet-requires-clause-b
sets_meet-requires-clause-b c =
    subst (λ m. IsOrderedOver m c.args.reached.now) (sym c.requires.given.1.parts.variables) c.requires.given.2.control.ordered

pub returns-then-not-some-clause-right : goal.returns-then-not-some-clause-right
returns-then-not-some-clause-right c s is closed =
    let apart : AreApart (has c.args.reached.now) (has c.args.reached.now) =
    subst (λ (b : Bool). IsEither (has c.args.reached.now) (has c.args.reached.now) b) c.if-not-some.true c.in_ok-some.ensures.exact in
    none_right s c.args.limit c.args.reached.now _ closed apart c.new.ensures c.new-then-not-some.ensures

pub returns-then-not-some-clause-plain : goal.returns-then-not-some-clause-plain
returns-then-not-some-clause-plain c = plain_none _ c.new.ensures

pub report_of-requires-clause-given : goal.report_of-requires-clause-given
report_of-requires-clause-given c = (
  c.requires.given.0,
  subst (λ (d : Diagrams). IsRelationOf c.requires.given.0 d c.args.relation.now) (sym c.sets_meet.ensures.same) c.requires.given.1,
  c.requires.given.2,
)

pub report_of-requires-clause-some : goal.report_of-requires-clause-some
report_of-requires-clause-some c =
    let met : Meets (has c.args.reached.now) (has c.args.reached.now) =
    subst (λ (b : Bool). IsEither (has c.args.reached.now) (has c.args.reached.now) b) c.if-not-some.false c.in_ok-some.ensures.exact in
    (met.0, met.1)

pub returns-clause-right : goal.returns-clause-right
returns-clause-right c s is closed =
    c.report_of.ensures.right s (subst (λ (d : Diagrams). IsRelationOf s d c.args.relation.now) (sym c.sets_meet.ensures.same) is) closed
