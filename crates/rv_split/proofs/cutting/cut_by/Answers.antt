use Rattle.rv_diagram.specs.Nodes.{value_of}
use Rattle.rv_split.specs.Splits.{IsCut}
use Rattle.rv_split.specs.declared.cutting.Halves.{Halves}
use Rattle.rv_split.proofs.Dividing.{divided_as_set, cut_by_variable}
use Rattle.rv_split.proofs.Sets.{map_ok}
use Rattle.rv_split.proofs.cutting.cut_by.Goals as goal

pub cut-requires-clause-divided : goal.cut-requires-clause-divided
cut-requires-clause-divided c = divided_as_set c.args.set.now c.args.by.now c.args.x c.requires.means c.requires.divided

pub returns-clause-cut : goal.returns-clause-cut
returns-clause-cut c = map_ok c.cut.result (λ (h : Halves). IsCut c.args.set.now (value_of c.args.by.now.nodes c.args.by.now.root) h.yes h.no)
    (λ (h : Halves). IsCut c.args.set.now (λ v. v c.args.x) h.yes h.no)
    (λ h k. cut_by_variable c.args.set.now c.args.by.now h.yes h.no c.args.x c.requires.means k) c.cut.ensures.cut
