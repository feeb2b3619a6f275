-- What a flow needs at the same instant, by the numbers of flows.
use Rattle.std.specs.Prelude.{◌≡◌, ℕ, ◌+◌, ◌<◌, ◌^◌, cond, List, [], ◌∷◌, ◌++◌, length, unwrap_or, Option, Some, None as Nothing}
use Rattle.rv_tree.specs.Tree.{Tree, Node, Form, True, False, Number, Named, Not, Minus, Pre, Current, When, Binary, If, AtMostOne, Call, Trees, None, More}
use Rattle.rv_tree.specs.Tree.{NodeTree, ProgramTree, node_tree, tree_of}
use Rattle.rv_tree.specs.Places.{Identifier, Sites, flows, is_flow, site_of}
use Rattle.rv_types.specs.{declared.typed.Clock.Clock, declared.typed.Clock.TheVariants.Base, Clocks.pace, Instances.clock_of, Instances.taken}
use Rattle.rv_types.specs.{Needs.Giver as GiverTree, Needs.Gives}
use Rattle.rv_instances.specs.{declared.givers.Giver.TheVariants.Input, declared.givers.Giver.TheVariants.Body, declared.givers.Giver.TheVariants.Output}
use Rattle.rv_instances.specs.{Layouts.Here, Layouts.number_of, Layouts.here_of, Layouts.node_at, declared.answer.Instance.Instance as Numbered}
use Rattle.rv_instances.specs.{declared.givers.Giver.Giver, declared.layout.Layout.Layout, declared.reader.Reader.Reader, Callees.callee_in, Givers.StandsFor}

-- a flow, if there is one
abbrev pub listed : Option ℕ → List ℕ
listed Nothing = []
listed (Some k) = k ∷ []

-- the number of the flow of a clock of an instance
abbrev pub clock_number : Here → Clock → Option ℕ
clock_number h k = number_of h.offset h.base k

-- the clock of an expression of a node, the base clock where it is free
abbrev pub clock_of_expression : NodeTree → Tree → Clock
clock_of_expression n e = taken Base (pace n e)

-- In an instance of a node with these numbers.
module _ (n : NodeTree) (h : Here) where
  -- the flow of a name
  abbrev pub flow_number : Identifier → Option ℕ
  flow_number x = cond (is_flow n x) (Some (h.offset + site_of n x)) Nothing

  abbrev mutual
    -- The numbers of what an expression needs that stands on the clock whose flow has the number k.
    pub numbers_needed : Option ℕ → Tree → List ℕ
    numbers_needed k (Node at site form) = listed k ++ form_numbers k site form

    pub form_numbers : Option ℕ → Option ℕ → Form → List ℕ
    form_numbers k site True = []
    form_numbers k site False = []
    form_numbers k site (Number v) = []
    form_numbers k site (Named x) = listed (flow_number x)
    form_numbers k site (Not e) = numbers_needed k e
    form_numbers k site (Minus e) = numbers_needed k e
    form_numbers k site (Pre e) = []
    form_numbers k site (Current e) = numbers_needed (clock_number h (clock_of_expression n e)) e
    form_numbers k site (When e c) = numbers_needed (clock_number h (clock_of n c.text)) e
    form_numbers k site (Binary o a b) = numbers_needed k a ++ numbers_needed k b
    form_numbers k site (If a b c) = numbers_needed k a ++ (numbers_needed k b ++ numbers_needed k c)
    form_numbers k site (AtMostOne es) = numbers_of_all k es
    form_numbers k site (Call f args) = h.output (unwrap_or site 0) ∷ []

    pub numbers_of_all : Option ℕ → Trees → List ℕ
    numbers_of_all k None = []
    numbers_of_all k (More e es) = numbers_needed k e ++ numbers_of_all k es

-- the node of an instance that is read, and its numbers
abbrev pub node_read : Reader → NodeTree
node_read r = node_tree r.clocks.now.node.now

abbrev pub numbers_of : Reader → Here
numbers_of r = here_of r.layout.now r.instance

-- An instance that can be read: the layout has it and what its calls give, and its flows have numbers of 32 bits.
pub record IsReader (r : Reader) : Type 0 where
  pub laid : r.instance < length r.layout.now.laid
  pub based : r.instance < length r.layout.now.bases
  pub callees : (s k : ℕ) → callee_in r.layout.now.callees r.instance s ≡ Some k → k < length r.layout.now.laid
  pub room : (numbers_of r).offset + length (flows (node_read r)) < 2 ^ 32

-- the site of an expression
abbrev pub site_in : Tree → ℕ
site_in (Node at site form) = unwrap_or site 0

-- The numbers of what a flow needs, by what gives it its value.
abbrev pub giver_numbers : ProgramTree → List Numbered → Layout → Giver → List ℕ
giver_numbers p instances l (Input j) = []
giver_numbers p instances l (Body b) =
    numbers_needed (node_at p instances b.instance) (here_of l b.instance) (clock_number (here_of l b.instance) b.clock) (tree_of b.body.now)
giver_numbers p instances l (Output o) =
    listed (clock_number (here_of l o.instance) o.clock) ++ ((here_of l o.instance).output (site_in (tree_of o.call.now)) + o.output) ∷ []

-- what is told gives some flow its value
abbrev pub IsGiver : ProgramTree → Identifier → List Numbered → Giver → Type 0
IsGiver p main instances g = (q : Sites) × (f : GiverTree) × Gives p main q f × StandsFor p instances g f
