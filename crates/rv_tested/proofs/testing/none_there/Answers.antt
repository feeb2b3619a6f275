use Rattle.std.proofs.Common.{◌∙◌, ◌++◌, ◌∷◌, ℕ, List, [], ap}
use Rattle.rv_tested.proofs.Rowing.{none_answered}
use Rattle.rv_tested.proofs.testing.none_there.Goals as goal

pub returns : goal.returns
returns c nodes = none_answered nodes c.push.new.self c.new-rows.result (c.in_ok-push.ensures.ok ∙ ap (λ (l : List ℕ). l ++ 1 ∷ []) c.new-refs.ensures)
    c.new-rows.ensures
