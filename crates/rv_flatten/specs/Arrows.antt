-- The clocks on which the `->` of a node stand, in the order in which they are written, and the numbers of their flows in all
-- instances.
use Rattle.std.specs.Prelude.{ℕ, zero, suc, ◌+◌, Bool, true, cond, List, [], ◌∷◌, ◌++◌, flat_map, slice_set}
use Rattle.rv_tree.specs.{declared.tree.Op.Op, Tree.NodeTree, Tree.ProgramTree}
use Rattle.rv_tree.specs.declared.tree.Op.TheVariants as op
use Rattle.rv_types.specs.declared.typed.Clock.{Clock}
use Rattle.rv_instances.specs.{declared.answer.Instance.Instance as Numbered, declared.layout.Layout.Layout, Layouts.Here, Layouts.here_of, Layouts.node_at}
use Rattle.rv_instances.specs.{NumberedNeeds.listed, NumberedNeeds.clock_number, Timed.operators_told}

-- the clock of an operator, where it is a `->`
abbrev pub arrow_of : Op → Clock → List Clock
arrow_of op.Arrow k = k ∷ []
arrow_of _ k = []

-- the clocks of the `->` of a node
abbrev pub node_arrows : NodeTree → List Clock
node_arrows n = flat_map (λ o. arrow_of o.operator o.clock) (operators_told n)

-- the numbers of the flows of some clocks of an instance
abbrev pub numbers_of_clocks : Here → List Clock → List ℕ
numbers_of_clocks h ks = flat_map (λ k. listed (clock_number h k)) ks

-- those of the clocks of the `->` of the instance with a number
abbrev pub arrow_numbers : ProgramTree → List Numbered → Layout → ℕ → List ℕ
arrow_numbers p instances l m = numbers_of_clocks (here_of l m) (node_arrows (node_at p instances m))

-- and of the first instances
abbrev pub arrow_numbers_to : ProgramTree → List Numbered → Layout → ℕ → List ℕ
arrow_numbers_to p instances l zero = []
arrow_numbers_to p instances l (suc m) = arrow_numbers_to p instances l m ++ arrow_numbers p instances l m

-- marks, and one at each of some numbers
abbrev pub with_marks : List Bool → List ℕ → List Bool
with_marks marks [] = marks
with_marks marks (n ∷ ns) = with_marks (slice_set marks n true) ns

-- the numbers that are marked, where the first mark is that of j
abbrev pub marked_from : ℕ → List Bool → List ℕ
marked_from j [] = []
marked_from j (b ∷ bs) = cond b (j ∷ []) [] ++ marked_from (j + 1) bs
