use Rattle.rv_symbolic.proofs.{Extending.map_ok, Parting.parted_both}
use Rattle.rv_symbolic.specs.Parted.{HasSides}
use Rattle.rv_symbolic.proofs.relation.Relation.cases.Goals as goal

pub returns-clause-parted : goal.returns-clause-parted
returns-clause-parted c s is none control =
    map_ok c.take_cases-answer.result (HasSides c.args.store.now c.args.self.now.parts c.args.from.now) _
    (λ cases sides. parted_both s c.args.store.now c.args.self.now c.args.from.now cases is none control sides) c.take_cases-answer.ensures.parted
