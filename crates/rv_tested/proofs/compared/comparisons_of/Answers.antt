use Rattle.std.proofs.Common.{List, map, ap}
use Rattle.rv_agreement.specs.Valuations.{Comparison}
use Rattle.rv_tested.specs.{declared.compared.Compared.Compared, Compared.comparison_in}
use Rattle.rv_tested.proofs.Gathered.{gathered}
use Rattle.rv_tested.proofs.compared.comparisons_of.Goals as goal

pub returns : goal.returns
returns c =
    let f = c.args.flat.now in
    let shown : List Compared → List Comparison = map (comparison_in f.memories) in
    gathered f (shown c.new-found.result) (shown c.gather_flows.new.found) (shown c.gather_memories.new.found) (shown c.gather_assertions.new.found)
    (ap (λ (l : List Compared). map (comparison_in f.memories) l) c.new-found.ensures) c.in_ok-gather_flows.ensures c.in_ok-gather_memories.ensures
    c.in_ok-gather_assertions.ensures
