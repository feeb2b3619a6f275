-- The ticks of a node: the clocks on which a `->` stands in it, or in a copy of a node that it calls on that clock.
use Rattle.std.specs.Prelude.{ℕ, zero, suc, ◌+◌, Bool, true, false, cond, List, [], ◌∷◌, ◌++◌, flat_map, length}
use Rattle.rv_tree.specs.{Tree.Tree, Tree.NodeTree, Tree.ProgramTree, Places.Identifier}
use Rattle.rv_types.specs.Variables.{total, node_parts, is_arrow, is_in}
use Rattle.rv_types.specs.{declared.typed.Clock.Clock, declared.typed.Clock.TheVariants.Base, declared.typed.Clock.TheVariants.On, Clocks.pace}
use Rattle.rv_types.specs.{Clocks.pace_of_all, Instances.taken, Instances.calls, Instances.node_of}

-- the clocks of the `->` among some expressions
abbrev pub arrows : NodeTree → List Tree → List Clock
arrows n [] = []
arrows n (e ∷ es) = cond (is_arrow e) (taken Base (pace n e) ∷ []) [] ++ arrows n es

-- whether the base clock is among some
abbrev pub has_base : List Clock → Bool
has_base [] = false
has_base (Base ∷ ks) = true
has_base (On c ∷ ks) = has_base ks

-- the different sites of the flows of some clocks
abbrev pub sites_of_clocks : List ℕ → List Clock → List ℕ
sites_of_clocks seen [] = []
sites_of_clocks seen (Base ∷ ks) = sites_of_clocks seen ks
sites_of_clocks seen (On c ∷ ks) = cond (is_in seen c) (sites_of_clocks seen ks) (c ∷ sites_of_clocks (c ∷ seen) ks)

-- The clocks with a tick, where it is known which nodes have a tick on their base clock: those of the `->` of the node,
-- and that of the arguments of a call of such a node.
abbrev pub ticking_where : NodeTree → (Identifier → Bool) → List Clock
ticking_where n on_base = arrows n (node_parts n) ++ flat_map (λ c. cond (on_base c.name) (taken Base (pace_of_all n c.args) ∷ []) []) (calls n)

-- the clocks with a tick, down to a number of levels of calls
abbrev pub ticking : ProgramTree → ℕ → NodeTree → List Clock
ticking p zero n = []
ticking p (suc levels) n = ticking_where n (λ f. has_base (ticking p levels (node_of p f)))

-- the ticks of a node and of all copies below it, the base clock's left out
abbrev pub tick_total : ProgramTree → ℕ → NodeTree → ℕ
tick_total p zero n = 0
tick_total p (suc levels) n = length (sites_of_clocks [] (ticking p (suc levels) n)) + total (λ c. tick_total p levels (node_of p c.name)) (calls n)

-- the ticks of a node, the base clock's and those of the copies below it left out
abbrev pub own_ticks : ProgramTree → NodeTree → ℕ
own_ticks p n = length (sites_of_clocks [] (ticking p (length p.nodes) n))
