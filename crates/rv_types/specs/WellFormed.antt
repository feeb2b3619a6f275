-- What the rules of names, types and clocks give for the nodes of a program that keeps them all.
use Rattle.std.specs.Prelude.{◌≡◌, ℕ, ◌<◌, ◌≤◌, ◌⊎◌, [], length, slice_index_or, slice_get, Option, Some, IsSome}
use Rattle.std.specs.List.{Contains}
use Rattle.rv_tree.specs.{declared.tree.Decl.Decl, declared.tree.Name.Name, Tree.Tree, Tree.Node, Tree.Call, Tree.Trees, Tree.EquationTree, Tree.AssertionTree}
use Rattle.rv_tree.specs.{Tree.NodeTree, Tree.ProgramTree, Places.Identifier, Places.flows, Places.names, Delays.Delay, Delays.node_delays, Delays.IsNumbered}
use Rattle.rv_types.specs.declared.fault.Pace.TheVariants.{Free, At, Mute, Differ}
use Rattle.rv_types.specs.Instances.{CallTree, calls, Right, Body, Output, IsRight, IsArgument, clock_of, clock_of_args, taken, node_of}
use Rattle.rv_types.specs.{declared.typed.Kind.Kind, declared.typed.Clock.Clock, declared.typed.Clock.TheVariants.Base, declared.fault.Pace.Pace, Clocks.pace}
use Rattle.rv_types.specs.{Kinds.decl_kinds, Kinds.flow_kind, Kinds.node_named, Types.kind_of, Scopes.node_scope, Scopes.constant_kind, Scopes.constant_value}
use Rattle.rv_types.specs.{Values.HasKind}
use Rattle.rv_types.specs.declared.typed.Kind.TheVariants as kind

-- what stands on a clock, or is free and may stand there
abbrev pub Suits : Clock → Pace → Type 0
Suits k Free = Unit {0}
Suits k (At c) = c ≡ k
Suits k Mute = ⊥
Suits k Differ = ⊥

-- The calls of a node have sites of their own, beyond those of its flows, as in the tree of every text.
pub record HasSites (n : NodeTree) : Type 0 where
  pub beyond : (c : CallTree) → Contains (calls n) c → length (flows n) ≤ c.site
  pub apart : (i j : ℕ) (c : CallTree) → i < j → j < length (calls n) → (slice_index_or (calls n) i c).site ≡ (slice_index_or (calls n) j c).site → ⊥

-- the same of all nodes
abbrev pub AreSited : ProgramTree → Type 0
AreSited p = (n : NodeTree) → Contains p.nodes n → HasSites n

-- Each flow of a node is an input or has one right side, each call has a site of its own and as many arguments as its
-- node has inputs, both sides of an equation or an argument have one clock, and so has what is assumed or remembered.
pub record IsWellFormed (program : ProgramTree) (n : NodeTree) : Type 0 where
  -- names
  pub once : (j k : ℕ) → j < k → k < length (flows n) → slice_index_or (flows n) j [] ≡ slice_index_or (flows n) k [] → ⊥
  pub given_or_defined : (x : Identifier) → Contains (flows n) x → Contains (names n.inputs) x ⊎ ((r : Right) × IsRight n x r)
  pub left : (x : Identifier) (r : Right) → IsRight n x r → Contains (flows n) x × (Contains (names n.inputs) x → ⊥)
  pub one_right : (x : Identifier) (r s : Right) → IsRight n x r → IsRight n x s → r ≡ s
  pub sides : (q : EquationTree) → Contains n.equations q → (length q.lefts ≡ 1 → ⊥)
      → (at : ℕ) × (site : Option ℕ) × (f : Identifier) × (es : Trees) × (q.right ≡ Node at site (Call f es))
  -- calls
  pub known : (c : CallTree) → Contains (calls n) c → IsSome (node_named program c.name)
  pub sites : (c d : CallTree) → Contains (calls n) c → Contains (calls n) d → c.site ≡ d.site → c ≡ d
  pub enough : (c : CallTree) (j : ℕ) → Contains (calls n) c → j < length (node_of program c.name).inputs → (e : Tree) × IsArgument c.args j e
  pub no_more : (c : CallTree) (j : ℕ) (e : Tree) → Contains (calls n) c → IsArgument c.args j e → j < length (node_of program c.name).inputs
  -- clocks
  pub base : (x : Identifier) → Contains (names n.inputs) x → clock_of n x ≡ Base
  pub body_clock : (x : Identifier) (e : Tree) → IsRight n x (Body e) → Suits (clock_of n x) (pace n e)
  pub output_clock : (x : Identifier) (c : CallTree) (j : ℕ) → IsRight n x (Output c j) → clock_of_args n c.args ≡ clock_of n x
  pub argument_clock : (c : CallTree) (j : ℕ) (e : Tree) → Contains (calls n) c → IsArgument c.args j e → Suits (clock_of_args n c.args) (pace n e)
  pub assertion_clock : (a : AssertionTree) → Contains n.assertions a → Suits (taken Base (pace n a.body)) (pace n a.body)
  pub delay_clock : (d : Delay) → Contains (node_delays n) d → Suits (taken Base (pace n d.operand)) (pace n d.operand)

-- Each right side has the type of its flow, each argument that of its input, assertions and declared clocks are
-- Boolean, and what a `pre` or `current` remembers has a type.
pub record IsWellTyped (program : ProgramTree) (n : NodeTree) : Type 0 where
  pub body : (x : Identifier) (e : Tree) → IsRight n x (Body e) → (k : Kind) × (kind_of (node_scope program n) e ≡ Some k) × (flow_kind program n x ≡ Some k)
  pub output : (x : Identifier) (c : CallTree) (j : ℕ) → IsRight n x (Output c j)
      → (k : Kind) × (slice_get (decl_kinds program (node_of program c.name).outputs) j ≡ Some k) × (flow_kind program n x ≡ Some k)
  pub argument : (c : CallTree) (j : ℕ) (e : Tree) → Contains (calls n) c → IsArgument c.args j e
      → (k : Kind) × (kind_of (node_scope program n) e ≡ Some k) × (slice_get (decl_kinds program (node_of program c.name).inputs) j ≡ Some k)
  pub assertion : (a : AssertionTree) → Contains n.assertions a → kind_of (node_scope program n) a.body ≡ Some kind.Bool
  pub clock : (d : Decl) (c : Name) → Contains n.locals d → d.clock ≡ Some c → flow_kind program n c.text ≡ Some kind.Bool
  pub delay : (d : Delay) → Contains (node_delays n) d → IsSome (kind_of (node_scope program n) d.operand)

-- The nodes of a program are well formed and well typed, what has a site in them has one of its own, and each constant and
-- label has a value of its type.
pub record AreWell (program : ProgramTree) : Type 0 where
  pub numbered : (n : NodeTree) → Contains program.nodes n → IsNumbered n
  pub formed : (n : NodeTree) → Contains program.nodes n → IsWellFormed program n
  pub typed : (n : NodeTree) → Contains program.nodes n → IsWellTyped program n
  pub values : (x : Identifier) (k : Kind) → constant_kind program x ≡ Some k → HasKind program k (constant_value program x)
