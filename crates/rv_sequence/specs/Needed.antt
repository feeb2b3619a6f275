-- What a flow needs at the same instant, by the numbers of flows, as it is found: the flow of the clock of an operand of
-- `current` or `when` stands once, after what the operand needs.
use Rattle.std.specs.Prelude.{ℕ, ◌+◌, List, [], ◌∷◌, ◌++◌, unwrap_or, Option}
use Rattle.rv_tree.specs.Tree.{Tree, Node, Form, True, False, Number, Named, Not, Minus, Pre, Current, When, Binary, If, AtMostOne, Call, Trees, None, More}
use Rattle.rv_tree.specs.Tree.{NodeTree, ProgramTree, tree_of}
use Rattle.rv_types.specs.{declared.typed.Clock.Clock, Instances.clock_of, ToldPaces.told_clock}
use Rattle.rv_instances.specs.declared.givers.Giver.TheVariants.{Input, Body, Output}
use Rattle.rv_instances.specs.Layouts.{Here, here_of, node_at}
use Rattle.rv_instances.specs.NumberedNeeds.{listed, clock_number, clock_of_expression, flow_number, site_in}
use Rattle.rv_instances.specs.{declared.answer.Instance.Instance as Numbered, declared.givers.Giver.Giver, declared.layout.Layout.Layout}

-- In an instance of a node with these numbers, where operands of `current` have these clocks.
module _ (n : NodeTree) (h : Here) (clock : Tree → Clock) where
  abbrev mutual
    pub needed_by : Tree → List ℕ
    needed_by (Node at site form) = form_needed_by site form

    pub form_needed_by : Option ℕ → Form → List ℕ
    form_needed_by site True = []
    form_needed_by site False = []
    form_needed_by site (Number v) = []
    form_needed_by site (Named x) = listed (flow_number n h x)
    form_needed_by site (Not e) = needed_by e
    form_needed_by site (Minus e) = needed_by e
    form_needed_by site (Pre e) = []
    form_needed_by site (Current e) = needed_by e ++ listed (clock_number h (clock e))
    form_needed_by site (When e c) = needed_by e ++ listed (clock_number h (clock_of n c.text))
    form_needed_by site (Binary o a b) = needed_by a ++ needed_by b
    form_needed_by site (If a b c) = needed_by a ++ (needed_by b ++ needed_by c)
    form_needed_by site (AtMostOne es) = all_needed_by es
    form_needed_by site (Call f args) = h.output (unwrap_or site 0) ∷ []

    pub all_needed_by : Trees → List ℕ
    all_needed_by None = []
    all_needed_by (More e es) = needed_by e ++ all_needed_by es

module _ (n : NodeTree) (h : Here) where
  -- the numbers of what an expression needs beside the flow of its own clock
  abbrev pub needed : Tree → List ℕ
  needed = needed_by n h (clock_of_expression n)

  abbrev pub form_needed : Option ℕ → Form → List ℕ
  form_needed = form_needed_by n h (clock_of_expression n)

  abbrev pub needed_by_all : Trees → List ℕ
  needed_by_all = all_needed_by n h (clock_of_expression n)

  -- the same by the clocks that operands tell
  abbrev pub told_needed : Tree → List ℕ
  told_needed = needed_by n h (told_clock n)

  abbrev pub told_needed_by_all : Trees → List ℕ
  told_needed_by_all = all_needed_by n h (told_clock n)

-- The numbers of what a flow needs, by what gives it its value.
abbrev pub giver_needed : ProgramTree → List Numbered → Layout → Giver → List ℕ
giver_needed p instances l (Input j) = []
giver_needed p instances l (Body b) =
    listed (clock_number (here_of l b.instance) b.clock) ++ needed (node_at p instances b.instance) (here_of l b.instance) (tree_of b.body.now)
giver_needed p instances l (Output o) =
    listed (clock_number (here_of l o.instance) o.clock) ++ ((here_of l o.instance).output (site_in (tree_of o.call.now)) + o.output) ∷ []
