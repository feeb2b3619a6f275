-- Programs of which all instances are known.
use Rattle.std.specs.List.{Contains}
use Rattle.std.specs.Prelude.{◌≡◌, ℕ, ◌≤◌, List, [], map, length, true, slice_index_or}
use Rattle.rv_tree.specs.Tree.{Trees, NodeTree, ProgramTree, tree_of, trees, program_tree}
use Rattle.rv_tree.specs.{Bounded.IsBounded, Places.Identifier, Places.is_among}
use Rattle.rv_types.specs.Instances.{CallTree, calls, clock_of_args, Instance, IsInstance, name_at}
use Rattle.rv_types.specs.{declared.typed.Clock.Clock, Names.name_faults, WellFormed.AreWell, WellFormed.AreSited}
use Rattle.rv_instances.specs.AllInstances.{names_of, AreInstances, numbered}
use Rattle.rv_instances.specs.{declared.answer.Instance.Instance as Numbered, declared.timed.ClockedCall.ClockedCall, declared.expanded.Expanded.Expanded}

-- A program whose names, types and clocks are right, with all its instances in the order of their paths.
pub record IsExpanded (p : ProgramTree) (main : Identifier) (instances : List Numbered) : Type 0 where
  pub bounded : IsBounded p
  pub named : name_faults p ≡ []
  pub sited : AreSited p
  pub well : AreWell p
  pub declared : is_among (names_of p) main ≡ true
  pub all : AreInstances p main instances
  pub few : length instances ≤ 4000

-- a call by its site, the name of its node, its arguments and the clock on which these stand
pub record ToldCall : Type 0 where
  pub site : ℕ
  pub callee : Identifier
  pub arguments : Trees
  pub clock : Clock

-- a call as it is listed
abbrev pub told : ClockedCall → ToldCall
told c = record { site = c.site; callee = c.callee.now; arguments = trees (map tree_of c.arguments.now); clock = c.clock }

-- a call of a node
abbrev pub call_told : NodeTree → CallTree → ToldCall
call_told n c = record { site = c.site; callee = c.name; arguments = c.args; clock = clock_of_args n c.args }

-- the calls of a node
abbrev pub calls_told : NodeTree → List ToldCall
calls_told n = map (call_told n) (calls n)

-- the calls of some nodes are listed
abbrev pub AreTold : List NodeTree → List (List ClockedCall) → Type 0
AreTold ns listed = map (λ cs. map told cs) listed ≡ map calls_told ns

-- its program, and the name of its main node
abbrev pub program_of : Expanded → ProgramTree
program_of x = program_tree x.program.now

abbrev pub main_of : Expanded → Identifier
main_of x = name_at (program_of x) x.main

-- It is one, with the clocks and the calls of its nodes.
pub record IsKnown (x : Expanded) : Type 0 where
  pub expanded : IsExpanded (program_of x) (main_of x) x.instances.now
  pub clocks : map (λ c. c.node.now) x.clocks ≡ x.program.now.nodes
  pub calls : AreTold (program_of x).nodes x.calls

-- an instance for a number that none has
abbrev pub no_instance : Numbered
no_instance = record { path = []; node = 0 }

-- What is listed is a call of the instance with a number.
pub record IsCallOf (p : ProgramTree) (main : Identifier) (instances : List Numbered) (m : ℕ) (x : ClockedCall) : Type 0 where
  pub i : Instance
  pub is : IsInstance p main i
  pub at : slice_index_or instances m no_instance ≡ numbered p i
  pub call : CallTree
  pub there : Contains (calls i.node) call
  pub site : x.site ≡ call.site
  pub clock : x.clock ≡ clock_of_args i.node call.args
  pub arguments : trees (map tree_of x.arguments.now) ≡ call.args
