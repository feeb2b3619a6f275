-- The clocks that tick in a node, found among its operators and calls, and what is known of the nodes that have been
-- walked over.
use Rattle.std.specs.Prelude.{◌≡◌, ℕ, ◌<◌, Bool, false, not, cond, List, [], ◌∷◌, length, slice_index_or}
use Rattle.rv_tree.specs.{declared.tree.Op.Op, Tree.ProgramTree, Places.Identifier, Places.index_of}
use Rattle.rv_tree.specs.declared.tree.Op.TheVariants as op
use Rattle.rv_types.specs.declared.typed.Clock.TheVariants.{Base, On}
use Rattle.rv_types.specs.{declared.typed.Clock.Clock, Instances.no_node, Variables.is_in}
use Rattle.rv_instances.specs.{Expanded.ToldCall, Timed.ToldOperator}
use Rattle.rv_sizes.specs.{Capped.capped, Memories.with_site, Ticks.has_base, Ticks.ticking, Ticks.own_ticks}

-- whether the node of a name has a tick on its base clock, by the numbers of nodes
abbrev pub ticks_on_base : List Identifier → List Bool → Identifier → Bool
ticks_on_base names bases f = slice_index_or bases (index_of names f) false

-- the clock of an operator, where it is a `->`
abbrev pub arrow_on : Op → Clock → List Clock
arrow_on op.Arrow k = k ∷ []
arrow_on _ k = []

abbrev pub arrow_told : ToldOperator → List Clock
arrow_told o = arrow_on o.operator o.clock

-- the clock of the arguments of a call, where the node that is called has a tick on its base clock
abbrev pub handed_told : (Identifier → Bool) → ToldCall → List Clock
handed_told on_base c = cond (on_base c.callee) (c.clock ∷ []) []

-- whether a clock is a flow that is not among some
abbrev pub is_new_site : List ℕ → Clock → Bool
is_new_site seen Base = false
is_new_site seen (On c) = not (is_in seen c)

-- some flows and that of a clock, once
abbrev pub with_clock : List ℕ → Clock → List ℕ
with_clock seen Base = seen
with_clock seen (On c) = with_site seen c

-- What holds while nodes are walked over in an order in which each stands after those that it calls: of the first ones
-- it is known whether they have a tick on their base clock, and how many others.
pub record AreTicked (p : ProgramTree) (order : List ℕ) (done : ℕ) (bases : List Bool) (own : List ℕ) : Type 0 where
  pub bases_size : length bases ≡ length p.nodes
  pub own_size : length own ≡ length p.nodes
  pub base : (j : ℕ) → j < done → j < length order → slice_index_or bases (slice_index_or order j 0) false ≡ has_base
      (ticking p (length p.nodes) (slice_index_or p.nodes (slice_index_or order j 0) no_node))
  pub count : (j : ℕ) → j < done → j < length order → slice_index_or own (slice_index_or order j 0) 0 ≡ capped
      (own_ticks p (slice_index_or p.nodes (slice_index_or order j 0) no_node))
