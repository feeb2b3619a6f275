use Rattle.std.proofs.Common.{◌∙◌, arith}
use Rattle.rv_control.specs.Control.{control_of}
use Rattle.rv_cases.specs.declared.asking.Questions.{Questions}
use Rattle.rv_diagram.specs.Growing.{Extends}
use Rattle.rv_diagram.proofs.Growing.{extends_trans}
use Rattle.rv_tested.specs.Exact.{AreAsked}
use Rattle.rv_tested.proofs.{Asking.are_distinct, Asking.are_questions, Assembling.all_asked}
use Rattle.rv_tested.proofs.questions.read_questions.Goals as goal

pub ask_observer-requires : goal.ask_observer-requires
ask_observer-requires c = omega (arith, c.requires.observer.0, c.in_ok-terms.ensures.ok.extends.longer, c.in_ok-questions.ensures.extends.longer)

pub returns-clause-extends : goal.returns-clause-extends
returns-clause-extends c =
    extends_trans c.args.store.now c.ask_tests.new.store c.ask_observer.new.store
    (extends_trans c.args.store.now c.read_updates.new.store c.ask_tests.new.store c.in_ok-terms.ensures.ok.extends c.in_ok-questions.ensures.extends)
    c.in_ok-ask_observer.ensures.asked.extends

pub returns-clause-ok : goal.returns-clause-ok
returns-clause-ok c =
    let f = c.args.around.now.flat.now in
    let a = c.args.store.now in
    let b = c.read_updates.new.store in
    let later = c.ask_tests.new.store in
    let d = c.ask_observer.new.store in
    let ab : Extends a b = c.in_ok-terms.ensures.ok.extends in
    let bc : Extends b later = c.in_ok-questions.ensures.extends in
    let ac : Extends a later = extends_trans a b later ab bc in
    let q : Questions = record { questions = c.ask_observer.new.questions; rows = c.in_ok-questions.field-0.rows; forms = c.in_ok-forms.forms } in
    let asked : AreAsked (control_of f) d q =
    all_asked f a b later d c.in_ok-terms.terms c.args.observer c.in_ok-questions.field-0.questions c.ask_memories.new.questions c.ask_observer.new.questions
    c.in_ok-questions.field-0.rows c.in_ok-forms.forms c.requires.variables ab bc c.in_ok-terms.ensures.ok c.in_ok-questions.ensures.ok
    c.in_ok-forms.ensures.asked c.in_ok-forms.ensures.forms c.in_ok-ask_observer.ensures.asked
    (omega (arith, c.requires.observer.0, ac.longer), λ v. ac.kept c.args.observer c.requires.observer.0 v ∙ c.requires.observer.1 v) in
    (are_questions (control_of f) d q asked c.requires.system, are_distinct (control_of f) d q asked)
