-- The calls of a program by the numbers of its nodes.
use Rattle.std.specs.Prelude.{ℕ, ◌<◌, List, map, length, slice_index_or}
use Rattle.rv_tree.specs.declared.tree.Node as declared
use Rattle.rv_tree.specs.{Tree.ProgramTree, Places.Identifier, Places.index_of}
use Rattle.rv_calls.specs.{declared.calls.Calling.Calling, Graphs.Graph, Graphs.edges}
use Rattle.rv_types.specs.Instances.{CallTree, calls}
use Rattle.rv_instances.specs.AllInstances.{names_of}

-- a call, where the nodes have these names
abbrev pub calling : List Identifier → CallTree → Calling
calling names c = record { at = c.at; site = c.site; callee = index_of names c.name }

-- some calls
abbrev pub callings : List Identifier → List CallTree → List Calling
callings names cs = map (calling names) cs

-- the calls of each node
abbrev pub callings_of : ProgramTree → List (List Calling)
callings_of p = map (λ n. callings (names_of p) (calls n)) p.nodes

-- the nodes that some calls call
abbrev pub callees : List Calling → List ℕ
callees cs = map (λ c. c.callee) cs

-- which node calls which
abbrev pub call_graph : List (List Calling) → Graph
call_graph t = map callees t

-- a vertex leads to another over any number of edges
pub data LeadsTo (g : Graph) (b : ℕ) : ℕ → Type 0 where
  there : LeadsTo g b b
  over : (a j : ℕ) → j < length (edges g a) → LeadsTo g b (slice_index_or (edges g a) j 0) → LeadsTo g b a

-- the names of some nodes as they are declared
abbrev pub node_texts : List declared.Node → List Identifier
node_texts ns = map (λ n. n.name.text) ns
