use Rattle.rv_symbolic.proofs.Extending.{map_ok}
use Rattle.rv_proofs.specs.Cases.{AreCases}
use Rattle.rv_paths.specs.Searching.{AreUsable}
use Rattle.rv_paths.proofs.Settings.{search_allowed, cases_usable}
use Rattle.rv_paths.proofs.planning.cases_in.Goals as goal

pub cases-requires : goal.cases-requires
cases-requires c =
    let (s, given, control) = c.requires in
    let r = given.relation in (
      s,
      r.system,
      given.questions,
      search_allowed s c.args.store.now c.args.relation.now c.args.questions.now c.args.columns given c.parts.result.now c.parts.ensures,
      control,
    )

pub returns-clause-usable : goal.returns-clause-usable
returns-clause-usable c s given control =
    let r = given.relation in
    map_ok c.cases.result (AreCases s c.args.from.now) (AreUsable s) (λ cases are. cases_usable s c.args.from.now cases are)
    (c.cases.ensures.parted s r.system given.questions
    (search_allowed s c.args.store.now c.args.relation.now c.args.questions.now c.args.columns given c.parts.result.now c.parts.ensures) control)
