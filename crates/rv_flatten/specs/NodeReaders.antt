-- The nodes whose expressions are read, and what is found of all instances, one after the other.
use Rattle.std.specs.{Prelude.◌≡◌, Prelude.ℕ, Prelude.zero, Prelude.suc, Prelude.List, Prelude.[], Prelude.◌++◌, Prelude.map, List.Contains}
use Rattle.rv_tree.specs.{Tree.NodeTree, Tree.ProgramTree, Tree.node_tree, Places.Sites}
use Rattle.rv_types.specs.{declared.reading.NodeTables.NodeTables, declared.reading.ProgramTables.ProgramTables, Readings.view_of, Scopes.node_scope}
use Rattle.rv_types.specs.{Tables.scope_of, Types.Scope, Lists.AreRising}
use Rattle.rv_flatten.specs.declared.node_reader.NodeReader.{NodeReader}

-- the node
abbrev pub node_read : NodeReader → NodeTree
node_read r = node_tree r.clocks.now.node.now

-- what names stand for in its expressions
abbrev pub scope_read : NodeReader → Scope
scope_read r = scope_of (view_of r.tables.now r.own)

-- what names stand for in the expressions of a node, by the tables of its flows
abbrev pub scope_by : ProgramTables → NodeTables → Scope
scope_by tables own = scope_of (view_of tables own)

-- These are the tables of the flows of each node.
abbrev pub AreOwnTables : ProgramTree → ProgramTables → List NodeTables → Type 0
AreOwnTables p tables owns = map (scope_by tables) owns ≡ map (node_scope p) p.nodes

-- the lists of the first numbers, one after the other
abbrev pub lists_to : {X : Type 0} → (ℕ → List X) → ℕ → List X
lists_to own zero = []
lists_to own (suc m) = lists_to own m ++ own m

-- What stands in one list, in the order of its places, and of each place once.
pub record AreSortedBy {X : Type 0} (place : X → Sites) (before after : List X) : Type 0 where
  pub rising : AreRising (map place after)
  pub all : (x : X) → Contains before x → (y : X) × Contains after y × (place y ≡ place x)
  pub only : (x : X) → Contains after x → Contains before x
