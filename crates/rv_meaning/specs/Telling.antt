-- What tells the type of an expression that has one.
use Rattle.std.specs.Prelude.{ℕ, ◌+◌, cond, List, [], ◌∷◌, reverse, unwrap_or, length, Option, Some, slice_get, None as Nothing}
use Rattle.std.specs.Option.{option_map}
use Rattle.rv_tree.specs.Places.{Identifier, Sites, index_of, is_same, site_of}
use Rattle.rv_tree.specs.{declared.tree.TypeDecl.TypeDecl, Tree.Tree, Tree.ConstantTree, Tree.NodeTree, Tree.ProgramTree}
use Rattle.rv_types.specs.Heads.{Telling, Itself, OfName, OfCallee, telling}
use Rattle.rv_types.specs.{declared.typed.Kind.Kind, Names.is_declared, Names.labels_of}
use Rattle.rv_types.specs.declared.typed.Kind.TheVariants as kind
use Rattle.rv_meaning.specs.{declared.kinds.Teller.Teller, Leading.node_texts, Leading.operand_in_node, Leading.callee_at, Leading.led_by}
use Rattle.rv_meaning.specs.declared.kinds.Teller.TheVariants as declared

-- what tells the type, of what the program computes with
abbrev pub telling_of : Teller → Telling
telling_of (declared.Itself k) = Itself k
telling_of (declared.Name x) = OfName x.now
telling_of (declared.Callee f) = OfCallee f.now

-- the type of a label of the declarations from a number on
abbrev pub label_told : ℕ → List TypeDecl → Identifier → Kind
label_told i [] x = kind.Bool
label_told i (d ∷ ds) x = cond (is_declared (labels_of d) x) (kind.Labels i) (label_told (i + 1) ds x)

module _ (p : ProgramTree) where
  -- the type of a constant or label, after some constants, the last of them first
  abbrev pub constant_told : List ConstantTree → Identifier → Kind
  constant_told [] x = label_told 0 p.types x
  constant_told (c ∷ before) x = cond (is_same c.name.text x)
      (elim (telling c.body) as (λ _. Kind) [ Itself k ↦ k | OfName y ↦ constant_told before y | OfCallee f ↦ kind.Bool ])
      (constant_told before x)

  -- the type of a name in a node whose flows have these types
  abbrev pub name_told : NodeTree → List Kind → Identifier → Kind
  name_told n ks x = elim (slice_get ks (site_of n x)) as (λ _. Kind) [ Nothing ↦ constant_told (reverse p.constants) x | Some k ↦ k ]

  -- the type of the first output of the node with a number, where the flows of the nodes have these types
  abbrev pub output_of : List (List Kind) → ℕ → Option Kind
  output_of kinds m = elim (slice_get p.nodes m) as (λ _. Option Kind)
      [ Nothing ↦ Nothing | Some n ↦ elim (slice_get kinds m) as (λ _. Option Kind) [ Nothing ↦ Nothing | Some ks ↦ slice_get ks (length n.inputs) ] ]

  -- the type of an expression
  abbrev pub told : List (List Kind) → NodeTree → List Kind → Tree → Kind
  told kinds n ks e = elim (telling e) as (λ _. Kind)
      [ Itself k ↦ k | OfName x ↦ name_told n ks x | OfCallee f ↦ unwrap_or (output_of kinds (index_of (node_texts p.nodes) f)) kind.Bool ]

  -- the type of the flow, `pre` or `current` at a site of a node
  abbrev pub kind_of_site : List (List Kind) → NodeTree → List Kind → ℕ → Option Kind
  kind_of_site kinds n ks s = elim (slice_get ks s) as (λ _. Option Kind) [ Nothing ↦ option_map (told kinds n ks) (operand_in_node n s) | Some k ↦ Some k ]

  -- the same in the node with a number
  abbrev pub kind_of_node : List (List Kind) → ℕ → ℕ → Option Kind
  kind_of_node kinds m s = elim (slice_get p.nodes m) as (λ _. Option Kind)
      [ Nothing ↦ Nothing | Some n ↦ elim (slice_get kinds m) as (λ _. Option Kind) [ Nothing ↦ Nothing | Some ks ↦ kind_of_site kinds n ks s ] ]

  -- and at the end of a path from the node with a number
  abbrev pub kind_at_end : List (List Kind) → ℕ → Sites → ℕ → Option Kind
  kind_at_end kinds main path s = elim (led_by (callee_at p.nodes) main path) as (λ _. Option Kind) [ Nothing ↦ Nothing | Some m ↦ kind_of_node kinds m s ]
