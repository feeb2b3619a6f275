use Rattle.std.proofs.Common.{◌∙◌, sym}
use Rattle.rv_diagram.proofs.Growing.{extends_trans}
use Rattle.rv_least.proofs.Opening.{given_later}
use Rattle.rv_least.proofs.opened.opened_anew.Goals as goal

pub test_ends-requires : goal.test_ends-requires
test_ends-requires c =
    let (s, f, given, wide, kept) = c.requires in
    let r = given.relation in
    let frame = given.frame in
    (s, r.system, given.questions, sym frame.columns ∙ wide)

pub opened-requires : goal.opened-requires
opened-requires c =
    let (s, f, given, wide, kept) = c.requires in
    let r = given.relation in
    let frame = given.frame in (
      s,
      f,
      given_later s c.args.store.now c.test_ends.new.store c.args.relation.now c.args.questions.now f c.test_ends.ensures.extends given,
      c.in_ok-tests.ensures.ends s r.system given.questions (sym frame.columns ∙ wide),
      kept,
    )

pub returns-clause-extends : goal.returns-clause-extends
returns-clause-extends c = extends_trans c.args.store.now c.test_ends.new.store c.opened.new.store c.test_ends.ensures.extends c.opened.ensures.extends

pub returns-clause-opened : goal.returns-clause-opened
returns-clause-opened c s f given wide kept =
    let r = given.relation in
    let frame = given.frame in
    c.opened.ensures.opened s f
    (given_later s c.args.store.now c.test_ends.new.store c.args.relation.now c.args.questions.now f c.test_ends.ensures.extends given)
    (c.in_ok-tests.ensures.ends s r.system given.questions (sym frame.columns ∙ wide)) kept
