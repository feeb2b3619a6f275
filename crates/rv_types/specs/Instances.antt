-- The instances of a program: the main node, and the copy of a node that each call of each instance is.
-- (Halbwachs, Caspi, Raymond and Pilaud 1991: a call means the copy of the node's equations on the clock of its
-- arguments.)
use Rattle.std.specs.Prelude.{◌≡◌, ℕ, zero, suc, ◌+◌, ◌<◌, List, [], ◌∷◌, ◌++◌, map, flat_map, length, unwrap_or, Option, Some, IsTrue, slice_index_or}
use Rattle.std.specs.Prelude.{None as Nothing}
use Rattle.std.specs.List.{Contains}
use Rattle.rv_tree.specs.Tree.{Tree, Node, Form, True, False, Number, Named, Not, Minus, Pre, Current, When, Binary, If, AtMostOne, Call, Trees, None, More}
use Rattle.rv_tree.specs.Tree.{EquationTree, AssertionTree, NodeTree, ProgramTree}
use Rattle.rv_tree.specs.Places.{Identifier, Sites, flows, flow_place, site_of, is_among}
use Rattle.rv_types.specs.declared.fault.Pace.TheVariants.{Free, At, Mute, Differ}
use Rattle.rv_types.specs.{declared.typed.Clock.Clock, declared.typed.Clock.TheVariants.Base, declared.typed.Clock.TheVariants.On, declared.fault.Pace.Pace}
use Rattle.rv_types.specs.{Clocks.pace, Clocks.pace_of_all, Clocks.clock_at, Names.texts, Kinds.node_named}

-- a call, by its offset, its site, the name of its node and its arguments
pub record CallTree : Type 0 where
  pub at : ℕ
  pub site : ℕ
  pub name : Identifier
  pub args : Trees

abbrev mutual
  -- the calls in an expression
  pub calls_in : Tree → List CallTree
  calls_in (Node at site form) = form_calls at site form

  pub form_calls : ℕ → Option ℕ → Form → List CallTree
  form_calls at site True = []
  form_calls at site False = []
  form_calls at site (Number v) = []
  form_calls at site (Named x) = []
  form_calls at site (Not e) = calls_in e
  form_calls at site (Minus e) = calls_in e
  form_calls at site (Pre e) = calls_in e
  form_calls at site (Current e) = calls_in e
  form_calls at site (When e c) = calls_in e
  form_calls at site (Binary o a b) = calls_in a ++ calls_in b
  form_calls at site (If a b c) = calls_in a ++ (calls_in b ++ calls_in c)
  form_calls at site (AtMostOne es) = calls_in_all es
  form_calls at site (Call f args) = record { at = at; site = unwrap_or site 0; name = f; args = args } ∷ calls_in_all args

  pub calls_in_all : Trees → List CallTree
  calls_in_all None = []
  calls_in_all (More e es) = calls_in e ++ calls_in_all es

-- those of some equations
abbrev pub calls_in_equations : List EquationTree → List CallTree
calls_in_equations [] = []
calls_in_equations (q ∷ qs) = calls_in q.right ++ calls_in_equations qs

-- those of some assertions
abbrev pub calls_in_assertions : List AssertionTree → List CallTree
calls_in_assertions [] = []
calls_in_assertions (a ∷ rest) = calls_in a.body ++ calls_in_assertions rest

-- the calls of a node, in its equations and assertions
abbrev pub calls : NodeTree → List CallTree
calls n = calls_in_equations n.equations ++ calls_in_assertions n.assertions

-- What an equation gives a flow: the value of its right side, or an output of a call with several.
pub data Right : Type 0 where
  Body : Tree → Right
  Output : CallTree → ℕ → Right

-- x is the one left side of an equation, or the one of this number among several
pub data IsRight (n : NodeTree) (x : Identifier) : Right → Type 0 where
  alone : (q : EquationTree) → Contains n.equations q → texts q.lefts ≡ x ∷ [] → IsRight n x (Body q.right)
  in_order : (q : EquationTree) (at site : ℕ) (f : Identifier) (args : Trees) (j : ℕ) → Contains n.equations q → q.right ≡ Node at (Some site) (Call f args)
      → 1 < length q.lefts → j < length q.lefts → slice_index_or (texts q.lefts) j [] ≡ x
      → IsRight n x (Output (record { at = at; site = site; name = f; args = args }) j)

-- the argument of a callee's input
pub data IsArgument : Trees → ℕ → Tree → Type 0 where
  head : {e : Tree} {es : Trees} → IsArgument (More e es) 0 e
  tail : {e a : Tree} {es : Trees} {j : ℕ} → IsArgument es j a → IsArgument (More e es) (suc j) a

-- An instance: its call sites from main, its node, and the place of the flow of its base clock, none for main's.
pub record Instance : Type 0 where
  pub path : Sites
  pub node : NodeTree
  pub base : Option Sites

-- the place of a flow of an instance
abbrev pub place : Instance → Identifier → Sites
place i x = flow_place i.path i.node x

-- the clock of the flow of a name
abbrev pub clock_of : NodeTree → Identifier → Clock
clock_of n x = clock_at n (site_of n x)

-- the place of the flow of a clock of an instance, none for main's base clock
abbrev pub absolute : Instance → Clock → Option Sites
absolute i Base = i.base
absolute i (On c) = Some (i.path ++ c ∷ [])

-- what stands on a clock is on that, and what is free takes the clock k
abbrev pub taken : Clock → Pace → Clock
taken k Free = k
taken k (At c) = c
taken k Mute = k
taken k Differ = k

-- the clock of an expression, which takes the clock k where it is free
abbrev pub clock_taken : Instance → Clock → Tree → Clock
clock_taken i k e = taken k (pace i.node e)

-- the flow of that clock
abbrev pub clock_in : Instance → Clock → Tree → Option Sites
clock_in i k e = absolute i (clock_taken i k e)

-- the clock of the arguments of a call in a node, the base clock where all are free
abbrev pub clock_of_args : NodeTree → Trees → Clock
clock_of_args n args = taken Base (pace_of_all n args)

-- the same in an instance
abbrev pub clock_of_arguments : Instance → Trees → Clock
clock_of_arguments i args = clock_of_args i.node args

-- a node without flows, for a name that no node has
abbrev pub no_node : NodeTree
no_node = record { name = record { text = []; at = 0 }; inputs = []; outputs = []; locals = []; equations = []; assertions = [] }

-- the node of a name
abbrev pub node_of : ProgramTree → Identifier → NodeTree
node_of program f = unwrap_or (node_named program f) no_node

-- the instance that a call of an instance gives, on the clock of its arguments
abbrev pub callee : ProgramTree → Instance → CallTree → Instance
callee program i c = record {
  path = i.path ++ c.site ∷ [];
  node = node_of program c.name;
  base = absolute i (clock_of_arguments i c.args);
}

module _ (program : ProgramTree) (main : Identifier) where
  -- the main node
  abbrev pub main_instance : Instance
  main_instance = record { path = []; node = node_of program main; base = Nothing }

  -- the main node, and what each call of an instance gives
  pub data IsInstance : Instance → Type 0 where
    is_main : IsInstance main_instance
    is_callee : {i : Instance} (c : CallTree) → IsInstance i → Contains (calls i.node) c → IsInstance (callee program i c)

  -- the places of all flows of all instances
  abbrev pub IsFlow : Sites → Type 0
  IsFlow p = (i : Instance) × (x : Identifier) × IsInstance i × Contains (flows i.node) x × (p ≡ place i x)

-- an instance and what its calls give, down to a number of levels
abbrev pub unrolled : ProgramTree → ℕ → Instance → List Instance
unrolled program zero i = []
unrolled program (suc levels) i = i ∷ flat_map (λ c. unrolled program levels (callee program i c)) (calls i.node)

-- All instances of a program whose nodes do not reach themselves: no chain of calls has more levels than there are
-- nodes.
abbrev pub all_instances : ProgramTree → Identifier → List Instance
all_instances program main = unrolled program (length program.nodes) (main_instance program main)

-- the place of the j-th output of a call
abbrev pub output_place : ProgramTree → Instance → ℕ → Identifier → ℕ → Sites
output_place program i site f j = i.path ++ site ∷ (length (node_of program f).inputs + j) ∷ []

-- the name of the node with a number
abbrev pub name_at : ProgramTree → ℕ → Identifier
name_at p k = (slice_index_or p.nodes k no_node).name.text

-- some node has the name
abbrev pub IsNode : ProgramTree → Identifier → Type 0
IsNode p x = IsTrue (is_among (map (λ n. n.name.text) p.nodes) x)
