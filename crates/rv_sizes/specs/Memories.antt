-- The memories of a node, by the tables of its expressions.
use Rattle.std.specs.Prelude.{ℕ, ◌+◌, cond, List, [], ◌∷◌, ◌++◌, map, slice_index_or, unwrap_or, Option}
use Rattle.rv_tree.specs.Tree.{Tree, Node, Form, Named, NodeTree, ProgramTree}
use Rattle.rv_tree.specs.{Places.Identifier, Places.index_of, Places.is_among, Delays.Delay}
use Rattle.rv_instances.specs.Timed.{ToldDelay}
use Rattle.rv_types.specs.Variables.{total, is_in, is_integer, memories}
use Rattle.rv_types.specs.{declared.typed.Kind.Kind, Types.Scope, Types.kind_of, Values.operand_kind}
use Rattle.rv_types.specs.declared.typed.Kind.TheVariants as kind
use Rattle.rv_sizes.specs.declared.memories.MemoryRead.{MemoryRead}

-- the site of the memory of a `pre` or `current`, by its own site and its operand, where the flows have these names
abbrev mutual
  pub site_in : List Identifier → Option ℕ → Tree → ℕ
  site_in names site (Node _ _ form) = site_of_form names site form

  pub site_of_form : List Identifier → Option ℕ → Form → ℕ
  site_of_form names site (Named x) = cond (is_among names x) (index_of names x) (unwrap_or site 0)
  site_of_form names site _ = unwrap_or site 0

-- what a `pre` or `current` reads
abbrev pub read_of : Scope → List Identifier → Delay → MemoryRead
read_of s names d = record { site = site_in names d.site d.operand; kind = unwrap_or (kind_of s d.operand) kind.Bool }

-- the sites of the memories that some read, where the flows have these names
abbrev pub sites_read : List Identifier → List ToldDelay → List ℕ
sites_read names ds = map (λ d. site_in names d.site d.operand) ds

-- sites with the types that stand at the numbers from j on
abbrev pub paired : List Kind → ℕ → List ℕ → List MemoryRead
paired ks j [] = []
paired ks j (s ∷ ss) = record { site = s; kind = slice_index_or ks j kind.Bool } ∷ paired ks (j + 1) ss

-- some sites with one more, where it is not among them
abbrev pub with_site : List ℕ → ℕ → List ℕ
with_site seen k = cond (is_in seen k) seen (seen ++ k ∷ [])

-- the type of each memory that is read and is not among these
abbrev pub kinds_beside : List ℕ → List MemoryRead → List Kind
kinds_beside seen [] = []
kinds_beside seen (r ∷ rs) = cond (is_in seen r.site) [] (r.kind ∷ []) ++ kinds_beside (with_site seen r.site) rs

-- the types of the memories of a node
abbrev pub memory_kinds : ProgramTree → NodeTree → List Kind
memory_kinds p n = map (λ d. operand_kind p n d.operand) (memories n)

-- how many types are that of the integers
abbrev pub integers : List Kind → ℕ
integers ks = total (λ k. cond (is_integer k) 1 0) ks
