-- Numbers that stop at 2^40.
use Rattle.std.specs.Prelude.{ℕ, min, List, map}
use Rattle.rv_tree.specs.Tree.{NodeTree}
use Rattle.rv_instances.specs.Counts.{node_size}
use Rattle.rv_base.specs.Limits.{heaviest}

-- a number, or 2^40 where that is less
abbrev pub capped : ℕ → ℕ
capped k = min k heaviest

-- the sizes of nodes, each capped
abbrev pub capped_sizes : List NodeTree → List ℕ
capped_sizes ns = map (λ n. capped (node_size n)) ns
