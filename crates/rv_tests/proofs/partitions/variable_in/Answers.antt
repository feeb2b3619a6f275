use Rattle.std.proofs.Common.{◌∙◌, List, [], ◌∷◌, ◌++◌, ap}
use Rattle.rv_diagram.specs.declared.Triple.{Triple}
use Rattle.rv_tests.proofs.Listed.{variable-some}
use Rattle.rv_tests.proofs.partitions.variable_in.Goals as goal

pub returns-clause-some : goal.returns-clause-some
returns-clause-some c = variable-some c.in-Some.var.now c.push.new.self
    (c.in_ok-push.ensures.ok ∙ ap (λ (l : List Triple). l ++ record { var = c.in-Some.var.now; lo = 0; hi = 1 } ∷ []) c.new-nodes.ensures)
