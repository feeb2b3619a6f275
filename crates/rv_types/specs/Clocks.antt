-- The clocks of flows and expressions, and where they clash: one table of rules gives both.
-- (Halbwachs, Caspi, Raymond and Pilaud 1991: each flow has a clock, and operators join flows of one clock.)
use Rattle.std.specs.Prelude.{ℕ, zero, suc, Bool, true, false, cond, nat_eq, List, [], ◌∷◌, ◌++◌, map, flat_map, length, Option, Some, slice_index_or}
use Rattle.std.specs.Prelude.{None as Nothing}
use Rattle.rv_tree.specs.Tree.{Tree, Form, Trees, Node, True, False, Number, Named, Not, Minus, Pre, Current, When, Binary, If, AtMostOne, Call, None, More}
use Rattle.rv_tree.specs.Tree.{EquationTree, AssertionTree, NodeTree, ProgramTree}
use Rattle.rv_tree.specs.{declared.tree.Op.Op, declared.tree.Name.Name, declared.tree.Decl.Decl, Places.Identifier, Places.is_flow, Places.site_of}
use Rattle.rv_tree.specs.declared.tree.Op.TheVariants as op
use Rattle.rv_types.specs.declared.fault.Pace.TheVariants.{Free, At, Mute, Differ}
use Rattle.rv_types.specs.{declared.typed.Clock.Clock, declared.typed.Clock.TheVariants.Base, declared.typed.Clock.TheVariants.On}
use Rattle.rv_types.specs.{declared.fault.NameFault.NameFault, declared.fault.NameFault.TheVariants.ClockClash, declared.fault.Pace.Pace, Parts.offset_of}
use Rattle.rv_types.specs.{Parts.faults}

-- A `Pace` of an expression: it is free; it is on a clock; it has none, since a part has none; the parts have clocks
-- and its own rule fails.

abbrev pub same_clock : Clock → Clock → Bool
same_clock Base Base = true
same_clock (On c) (On d) = nat_eq c d
same_clock _ _ = false

-- a pace as what has the expression as a part sees it
abbrev pub seen : Pace → Pace
seen Free = Free
seen (At c) = At c
seen Mute = Mute
seen Differ = Mute

-- equal clocks of all operands that are not free
abbrev pub meet : Pace → Pace → Pace
meet Mute q = Mute
meet p Mute = Mute
meet Differ q = Differ
meet p Differ = Differ
meet Free q = q
meet p Free = p
meet (At c) (At d) = cond (same_clock c d) (At c) Differ

-- what is free stands on the base clock
abbrev pub grounded : Pace → Pace
grounded Free = At Base
grounded p = p

-- the fault of a pace at an offset
abbrev pub clash_in : ℕ → Pace → List NameFault
clash_in at Free = []
clash_in at (At c) = []
clash_in at Mute = []
clash_in at Differ = ClockClash at ∷ []

-- The clocks of flows, in the order of their sites: inputs, outputs and locals without a declared clock are on the
-- base clock, a local `when C` is on C.

abbrev pub base_clock : Decl → Clock
base_clock d = Base

abbrev pub declared_clock : NodeTree → Option Name → Clock
declared_clock n Nothing = Base
declared_clock n (Some c) = On (site_of n c.text)

abbrev pub flow_clocks : NodeTree → List Clock
flow_clocks n = (map base_clock n.inputs ++ map base_clock n.outputs) ++ map (λ d. declared_clock n d.clock) n.locals

-- the clock of the flow at a site
abbrev pub clock_at : NodeTree → ℕ → Clock
clock_at n i = slice_index_or (flow_clocks n) i Base

-- The rules.

abbrev pub binary_pace : Op → Pace → Pace → Pace
binary_pace op.Arrow p q = grounded (meet p q)
binary_pace _ p q = meet p q

-- `E when C`, of E's pace and C's site: E is free or on C's own clock
abbrev pub when_pace : NodeTree → Pace → ℕ → Pace
when_pace n p i = elim (meet p (At (clock_at n i))) as (λ _. Pace) [ Free ↦ At (On i) | At c ↦ At (On i) | Mute ↦ Mute | Differ ↦ Differ ]

-- `current E`: E is on a clock C, and `current E` on C's own clock
abbrev pub current_pace : NodeTree → Pace → Pace
current_pace n Free = Differ
current_pace n (At Base) = Differ
current_pace n (At (On i)) = At (clock_at n i)
current_pace n Mute = Mute
current_pace n Differ = Mute

module _ (n : NodeTree) where
  -- a flow is on its clock; a constant or label is free
  abbrev pub name_pace : Identifier → Pace
  name_pace x = cond (is_flow n x) (At (clock_at n (site_of n x))) Free

  abbrev mutual
    pub pace : Tree → Pace
    pace (Node at site form) = form_pace form

    pub form_pace : Form → Pace
    form_pace True = Free
    form_pace False = Free
    form_pace (Number v) = Free
    form_pace (Named x) = name_pace x
    form_pace (Not e) = seen (pace e)
    form_pace (Minus e) = seen (pace e)
    form_pace (Pre e) = grounded (seen (pace e))
    form_pace (Current e) = current_pace n (seen (pace e))
    form_pace (When e c) = when_pace n (seen (pace e)) (site_of n c.text)
    form_pace (Binary o a b) = binary_pace o (seen (pace a)) (seen (pace b))
    form_pace (If a b c) = meet (seen (pace a)) (meet (seen (pace b)) (seen (pace c)))
    form_pace (AtMostOne es) = pace_of_all es
    form_pace (Call f es) = grounded (pace_of_all es)

    -- the pace of operands or arguments together
    pub pace_of_all : Trees → Pace
    pace_of_all None = Free
    pace_of_all (More e es) = meet (seen (pace e)) (pace_of_all es)

  -- the clash that an expression has of its own
  abbrev pub own_clash : Tree → List NameFault
  own_clash (Node at site form) = clash_in at (form_pace form)

  -- and those of its parts
  abbrev pub expression_clocks : Tree → List NameFault
  expression_clocks = faults own_clash

  -- the clock of left sides together
  abbrev pub left_pace : List Name → Pace
  left_pace [] = Free
  left_pace (x ∷ xs) = meet (name_pace x.text) (left_pace xs)

  -- The sides of an equation have one clock, which a free right side takes.
  abbrev pub equation_clocks : EquationTree → List NameFault
  equation_clocks q = expression_clocks q.right ++ clash_in (offset_of q.right) (meet (left_pace q.lefts) (seen (pace q.right)))

  abbrev pub assertion_clocks : AssertionTree → List NameFault
  assertion_clocks a = expression_clocks a.body

-- The chain of clocks from a flow ends at the base clock.
pub data IsGrounded (n : NodeTree) : Clock → Type 0 where
  at_base : IsGrounded n Base
  through : (i : ℕ) → IsGrounded n (clock_at n i) → IsGrounded n (On i)

-- the same within a number of steps
abbrev pub ends : NodeTree → ℕ → Clock → Bool
ends n steps Base = true
ends n zero (On i) = false
ends n (suc steps) (On i) = ends n steps (clock_at n i)

-- A local from whose declared clock the chain does not end; where it ends, it does within as many steps as the node
-- has flows, and one for a name that no flow has.
abbrev pub chain_clash : NodeTree → Decl → List NameFault
chain_clash n d = elim d.clock as (λ _. List NameFault)
    [ Nothing ↦ [] | Some c ↦ cond (ends n (suc (length (flow_clocks n))) (On (site_of n c.text))) [] (ClockClash c.at ∷ []) ]

abbrev pub clocks_in_node : NodeTree → List NameFault
clocks_in_node n = flat_map (chain_clash n) n.locals
    ++ (flat_map (equation_clocks n) n.equations ++ flat_map (assertion_clocks n) n.assertions)

-- What breaks a rule of clocks in a program.
abbrev pub clock_faults : ProgramTree → List NameFault
clock_faults p = flat_map clocks_in_node p.nodes
