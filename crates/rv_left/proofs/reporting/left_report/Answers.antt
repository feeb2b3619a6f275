use Rattle.std.proofs.Common.{sym, subst}
use Rattle.rv_diagram.specs.Nodes.{Diagrams}
use Rattle.rv_symbolic.specs.Represented.{IsRelationOf}
use Rattle.rv_symbolic.proofs.Extending.{map_ok}
use Rattle.rv_left.specs.Reports.{IsRight}
use Rattle.rv_left.proofs.reporting.left_report.Goals as goal

pub report_any-requires-clause-given : goal.report_any-requires-clause-given
report_any-requires-clause-given c = (
  c.requires.given.0,
  subst (λ (d : Diagrams). IsRelationOf c.requires.given.0 d c.args.relation.now) (sym c.reached.ensures.same) c.requires.given.1,
  c.in_ok-closed.ensures.closed c.requires.given.0 c.requires.given.1,
)

pub returns-clause-accepted : goal.returns-clause-accepted
returns-clause-accepted c s is =
    map_ok c.report_any.result (IsRight s c.args.limit) _ (λ r h. h.accepted)
    (c.report_any.ensures.right s (subst (λ (d : Diagrams). IsRelationOf s d c.args.relation.now) (sym c.reached.ensures.same) is)
    (c.in_ok-closed.ensures.closed s is))

pub returns-clause-left : goal.returns-clause-left
returns-clause-left c s is =
    map_ok c.report_any.result (IsRight s c.args.limit) _ (λ r h. h.left_over)
    (c.report_any.ensures.right s (subst (λ (d : Diagrams). IsRelationOf s d c.args.relation.now) (sym c.reached.ensures.same) is)
    (c.in_ok-closed.ensures.closed s is))
