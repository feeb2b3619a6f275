use Rattle.std.proofs.Common.{Bool, true, sym, subst}
use Rattle.rv_diagram.specs.Nodes.{Diagrams}
use Rattle.rv_proofs.specs.{Cases.AreCases, Ranges.IsControlSet}
use Rattle.rv_symbolic.specs.Represented.{IsRelationOf}
use Rattle.rv_walk.specs.{Ends.has, Ends.IsGoodCertificate, Plain.ArePlain, Walks.IsDone}
use Rattle.rv_walk.proofs.{Certifying.plain, Ending.done_bad, Ending.done_good}
use Rattle.rv_walk.proofs.walking.end_of.Goals as goal

pub returns-then-not-good-clause-ends : goal.returns-then-not-good-clause-ends
returns-then-not-good-clause-ends c s is without =
    done_bad s c.in_ok-walk.walk.sets (has c.in_ok-walk.walk.reached) c.in_ok-walk.walk.good
    (λ claim v. c.control_claims.ensures.all_open s claim v without) (c.in_ok-walk.ensures.ok s is).1 c.if-not-good.true

pub returns-clause-ends : goal.returns-clause-ends
returns-clause-ends c s is without =
    let d : IsDone s c.in_ok-walk.walk.sets (has c.in_ok-walk.walk.reached) true =
    subst (λ (b : Bool). IsDone s c.in_ok-walk.walk.sets (has c.in_ok-walk.walk.reached) b) c.if-not-good.false (c.in_ok-walk.ensures.ok s is).1 in
    let control : IsControlSet s c.in_ok-walk.walk.reached = (c.in_ok-walk.ensures.ok s is).0 in
    let still : IsRelationOf s c.explore.new.store c.args.relation.now = subst (λ (d : Diagrams). IsRelationOf s d c.args.relation.now)
    (sym c.explore.ensures.same) is in
    let a : AreCases s c.in_ok-walk.walk.reached c.in_ok-cases.cases = c.in_ok-cases.ensures.parted s still without control in
    subst (IsGoodCertificate s) (sym c.in_ok-certify.ensures)
    (done_good s c.in_ok-walk.walk.sets c.in_ok-walk.walk.reached c.in_ok-cases.cases control d a c.in_ok-cases.ensures.few)

pub returns-clause-plain : goal.returns-clause-plain
returns-clause-plain c = subst ArePlain (sym c.in_ok-certify.ensures) (plain c.in_ok-walk.walk.reached c.in_ok-cases.cases)
