-- What the `pre` and `current` of nodes read, and the memories that these are in instances.
use Rattle.std.specs.Prelude.{ℕ, List, [], ◌∷◌, ◌++◌, map, drop, unwrap_or, slice_index_or}
use Rattle.rv_tree.specs.{Tree.Tree, Tree.NodeTree, Tree.ProgramTree, Tree.tree_of, Places.Sites, Places.memory_site, Delays.Delay, Delays.node_delays}
use Rattle.rv_types.specs.{declared.typed.Clock.Clock, declared.typed.Kind.Kind, Scopes.node_scope, Types.Scope, Types.kind_of}
use Rattle.rv_types.specs.declared.typed.Kind.TheVariants as kind
use Rattle.rv_instances.specs.{declared.answer.Instance.Instance as Numbered, Expanded.no_instance, Layouts.path_at, Timed.ToldDelay, Timed.delay_told}
use Rattle.rv_flatten.specs.{declared.kept.Kept.Kept, declared.memories.MemoryRead.MemoryRead}

-- the site of a memory, the type of what it holds, and an operand that reads it, with its clock
pub record ReadAt : Type 0 where
  pub site : ℕ
  pub kind : Kind
  pub clock : Clock
  pub operand : Tree

-- what is read, as it is found
abbrev pub read_seen : MemoryRead → ReadAt
read_seen r = record { site = r.site; kind = r.kind; clock = r.clock; operand = tree_of r.operand.now }

-- what a `pre` or `current` of a node reads, by the type of its operand
abbrev pub read_told : NodeTree → Kind → ToldDelay → ReadAt
read_told n k d = record { site = memory_site n d.site d.operand; kind = k; clock = d.clock; operand = d.operand }

-- what several read, by the types of their operands
abbrev pub joined : NodeTree → List Kind → List ToldDelay → List ReadAt
joined n ks [] = []
joined n ks (d ∷ ds) = read_told n (slice_index_or ks 0 kind.Bool) d ∷ joined n (drop 1 ks) ds

-- what one reads where names stand for this
abbrev pub read_by : NodeTree → Scope → Delay → ReadAt
read_by n s d = read_told n (unwrap_or (kind_of s d.operand) kind.Bool) (delay_told n d)

abbrev pub reads : NodeTree → Scope → List Delay → List ReadAt
reads n s ds = map (read_by n s) ds

-- what those of a node of a program read
abbrev pub reads_in : ProgramTree → NodeTree → List ReadAt
reads_in p n = reads n (node_scope p n) (node_delays n)

-- a memory of an instance: its place, its type, the number of the instance, and an operand with its clock
pub record KeptAt : Type 0 where
  pub place : Sites
  pub kind : Kind
  pub clock : Clock
  pub instance : ℕ
  pub operand : Tree

-- a memory, as it is found
abbrev pub kept_seen : Kept → KeptAt
kept_seen k = record { place = k.place.sites; kind = k.kind; clock = k.clock; instance = k.instance; operand = tree_of k.operand.now }

-- what is read in the instance with a path and a number
abbrev pub kept_at : Sites → ℕ → ReadAt → KeptAt
kept_at path m r = record { place = path ++ r.site ∷ []; kind = r.kind; clock = r.clock; instance = m; operand = r.operand }

-- what the instance with a number reads, by what each node reads
abbrev pub kept_in : List (List ReadAt) → List Numbered → ℕ → List KeptAt
kept_in read instances m = map (kept_at (path_at instances m) m) (slice_index_or read (slice_index_or instances m no_instance).node [])
