use Rattle.rv_diagram.specs.Growing.{Extends}
use Rattle.rv_diagram.proofs.Growing.{extends_trans}
use Rattle.rv_forms.proofs.Steps.{on_map}
use Rattle.rv_tested.proofs.questions.ask_system.Goals as goal

pub returns-clause-extends : goal.returns-clause-extends
returns-clause-extends c = on_map c.read_questions.result (Extends c.read_wholes.new.store c.read_questions.new.store)
    (Extends c.args.store.now c.read_questions.new.store)
    (extends_trans c.args.store.now c.read_wholes.new.store c.read_questions.new.store c.in_ok-wholes.ensures.ok.extends) c.read_questions.ensures.extends
