use Rattle.rv_diagram.specs.Growing.{Extends}
use Rattle.rv_diagram.proofs.Growing.{extends_trans}
use Rattle.rv_tested.proofs.Inside.{all_inside}
use Rattle.rv_forms.proofs.Steps.{on_map}
use Rattle.rv_tested.proofs.questions.ask_tests.Goals as goal

pub read_all-requires-clause-inside : goal.read_all-requires-clause-inside
read_all-requires-clause-inside c = all_inside c.args.around.now.flat.now c.requires.ready.around.well c.in_ok-compared.compared c.in_ok-compared.ensures

pub read_tests-requires-clause-inside : goal.read_tests-requires-clause-inside
read_tests-requires-clause-inside c = all_inside c.args.around.now.flat.now c.requires.ready.around.well c.in_ok-compared.compared c.in_ok-compared.ensures

pub read_tests-requires-clause-variables : goal.read_tests-requires-clause-variables
read_tests-requires-clause-variables c = c.in_ok-sides.ensures.ready.around.variables

pub read_tests-requires-clause-well : goal.read_tests-requires-clause-well
read_tests-requires-clause-well c = c.requires.ready.around.well

pub returns-clause-extends : goal.returns-clause-extends
returns-clause-extends c = on_map c.read_tests.result (Extends c.read_all.new.store c.read_tests.new.store)
    (Extends c.args.store.now c.read_tests.new.store)
    (extends_trans c.args.store.now c.read_all.new.store c.read_tests.new.store c.in_ok-sides.ensures.extends) c.read_tests.ensures.extends
