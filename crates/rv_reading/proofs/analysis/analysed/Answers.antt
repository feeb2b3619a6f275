use Rattle.std.proofs.Common.{sym, subst}
use Rattle.rv_diagram.specs.Nodes.{Diagrams}
use Rattle.rv_symbolic.specs.Represented.{IsRelationOf}
use Rattle.rv_reading.proofs.analysis.analysed.Goals as goal

pub returns-clause-end : goal.returns-clause-end
returns-clause-end c s given =
    let there : IsRelationOf s c.by_rows.new.store c.args.relation.now = subst (λ (d : Diagrams). IsRelationOf s d c.args.relation.now)
    (sym c.by_rows.ensures.same)
    (subst (λ (d : Diagrams). IsRelationOf s d c.args.relation.now) (sym c.least_closed.ensures.same) given.relation) in
    c.ended.ensures s c.args.locations c.args.accelerate (c.in_ok-report.ensures.accepted s there) (c.in_ok-report.ensures.left s there) c.in_ok-report.ensures.plain
