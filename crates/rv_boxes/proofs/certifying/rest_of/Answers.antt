use Rattle.std.proofs.Common.{◌≡◌, subst, sym}
use Rattle.rv_diagram.specs.Nodes.{Diagrams}
use Rattle.rv_cases.specs.Questions.{AreQuestions}
use Rattle.rv_boxes.proofs.Giving.{given_allowed}
use Rattle.rv_boxes.proofs.certifying.rest_of.Goals as goal

pub cases-requires : goal.cases-requires
cases-requires c =
    let (s, f, given, initial, kept) = c.requires in
    let r = given.relation in
    let p = r.parts in
    let back : c.without.new.store ≡ c.args.store.now = c.without.ensures.same in (
      s,
      r.system,
      subst (λ (d : Diagrams). AreQuestions s d c.args.questions.now) (sym back) given.questions,
      given_allowed s c.args.store.now c.without.new.store c.args.relation.now c.args.questions.now f given back c.parts.result.now c.parts.ensures,
      c.in_ok-control.ensures.control s p.variables kept.control initial.control,
    )

pub returns-clause-others : goal.returns-clause-others
returns-clause-others c s f given initial kept =
    let r = given.relation in
    let p = r.parts in
    let back : c.without.new.store ≡ c.args.store.now = c.without.ensures.same in
    let control = c.in_ok-control.ensures.control s p.variables kept.control initial.control in
    let w = c.in_ok-control.ensures.exact in
    record {
      rest = record { control = control; exact = w.exact; rows = c.in_ok-given.ensures };
      cases = c.in_ok-cases.ensures.parted s r.system (subst (λ (d : Diagrams). AreQuestions s d c.args.questions.now) (sym back) given.questions)
          (given_allowed s c.args.store.now c.without.new.store c.args.relation.now c.args.questions.now f given back c.parts.result.now c.parts.ensures)
          control;
    }
