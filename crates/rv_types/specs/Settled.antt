-- Which programs meet every rule of names, types and clocks, with which types, clocks and constants, and which fault
-- is the first of one that does not.
use Rattle.std.specs.Prelude.{◌≡◌, ◌⊎◌, ◌<◌, ℕ, cond, IsTrue, List, [], ◌∷◌, map, length, Result, Ok, Err, Some}
use Rattle.rv_tree.specs.{Tree.ProgramTree, Places.Identifier, Places.index_of}
use Rattle.rv_types.specs.declared.fault.NameFault.TheVariants.{NoNode, UnknownName, DefinedTwice, Undefined, TypeClash, Nonlinear, ClockClash, NotObserver}
use Rattle.rv_types.specs.declared.fault.NameFault.TheVariants.{Memory}
use Rattle.rv_types.specs.Names.{texts, is_declared, node_names, name_faults}
use Rattle.rv_types.specs.{declared.fault.NameFault.NameFault, declared.typed.Typed.Typed, Kinds.flow_kinds, Scopes.constant_values, Scopes.type_faults}
use Rattle.rv_types.specs.{Scopes.observer_faults, Clocks.flow_clocks, Clocks.clock_faults, Faults.IsFirstOfGroups, Earliest.first}

-- the number of the first node of a name
abbrev pub node_number : ProgramTree → Identifier → ℕ
node_number p main = index_of (texts (node_names p)) main

-- A program of which no place breaks a rule, its main node, the types and clocks of all flows and the values of all
-- constants.
pub record IsSettled (p : ProgramTree) (main : Identifier) (t : Typed) : Type 0 where
  pub has_main : IsTrue (is_declared (node_names p) main)
  pub names : name_faults p ≡ []
  pub types : type_faults p ≡ []
  pub clocks : clock_faults p ≡ []
  pub observer : observer_faults p main ≡ []
  pub main_number : t.main ≡ node_number p main
  pub flow_types : t.kinds ≡ map (flow_kinds p) p.nodes
  pub flow_times : t.clocks ≡ map flow_clocks p.nodes
  pub values : t.constants ≡ constant_values p

-- the answer of the rules of names, types and clocks, with some main node
abbrev pub IsAnswer : ProgramTree → Typed → Type 0
IsAnswer p t = (main : Identifier) × IsSettled p main t

-- a program without a node of the name
abbrev pub node_faults : ProgramTree → Identifier → List NameFault
node_faults p main = cond (is_declared (node_names p) main) [] (NoNode ∷ [])

-- The groups of faults, of which an earlier one decides: no node, then names, types, clocks and the observer.
abbrev pub groups : ProgramTree → Identifier → List (List NameFault)
groups p main = node_faults p main ∷ name_faults p ∷ type_faults p ∷ clock_faults p ∷ observer_faults p main ∷ []

-- the fault with which a program is refused
abbrev pub IsFirstFault : ProgramTree → Identifier → NameFault → Type 0
IsFirstFault p main f = IsFirstOfGroups (groups p main) f

-- the cause of an `Err`; want of memory needs none
abbrev pub HasCause : ProgramTree → Identifier → NameFault → Type 0
HasCause p main Memory = Unit {0}
HasCause p main NoNode = IsFirstFault p main NoNode
HasCause p main (UnknownName at) = IsFirstFault p main (UnknownName at)
HasCause p main (DefinedTwice at) = IsFirstFault p main (DefinedTwice at)
HasCause p main (Undefined at) = IsFirstFault p main (Undefined at)
HasCause p main (TypeClash at) = IsFirstFault p main (TypeClash at)
HasCause p main (Nonlinear at) = IsFirstFault p main (Nonlinear at)
HasCause p main (ClockClash at) = IsFirstFault p main (ClockClash at)
HasCause p main (NotObserver at) = IsFirstFault p main (NotObserver at)

-- this is answered, unless memory ran out
abbrev pub Answers : Typed → Result Typed NameFault → Type 0
Answers t (Ok u) = u ≡ t
Answers t (Err f) = f ≡ Memory

abbrev pub Refuses : NameFault → Result Typed NameFault → Type 0
Refuses f (Ok t) = ⊥
Refuses f (Err g) = (g ≡ Memory) ⊎ (g ≡ f)

-- what is known of a program whose names are right: its main node
pub record IsNamed (p : ProgramTree) (main : Identifier) (number : ℕ) : Type 0 where
  pub has_main : IsTrue (is_declared (node_names p) main)
  pub names : name_faults p ≡ []
  pub main_number : number ≡ node_number p main
  pub within : number < length p.nodes

-- what a check of one group of faults answers of it
abbrev pub IsFaultOf : List NameFault → NameFault → Type 0
IsFaultOf fs f = (f ≡ Memory) ⊎ (Some f ≡ first fs)
