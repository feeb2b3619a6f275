-- The tables of types, labels and nodes.
use Rattle.std.specs.Prelude.{ℕ, ◌+◌, List, [], ◌∷◌, ◌++◌, map, length, Option}
use Rattle.rv_tree.specs.{declared.tree.Name.Name, declared.tree.TypeDecl.TypeDecl, declared.tree.Decl.Decl, Tree.NodeTree, Places.Identifier}
use Rattle.rv_types.specs.Kinds.{written_kind, declared_kind, kind_after}
use Rattle.rv_types.specs.{declared.typed.Kind.Kind, declared.view.Label.Label, Names.labels_of, Names.decls, Types.Signature}

-- what each of some declarations of types means, the last of them first, in the order of the text
abbrev pub declared_kinds : List TypeDecl → List Kind
declared_kinds [] = []
declared_kinds (d ∷ before) = declared_kinds before ++ declared_kind (kind_after before) (length before) d.body ∷ []

-- the types of flows, where names of types mean these
abbrev pub kinds_by : (Identifier → Option Kind) → List Decl → List Kind
kinds_by named ds = map (λ d. written_kind named d.kind) ds

abbrev pub flow_kinds_by : (Identifier → Option Kind) → NodeTree → List Kind
flow_kinds_by named n = kinds_by named (decls n)

abbrev pub signature_by : (Identifier → Option Kind) → NodeTree → Signature
signature_by named n = record { takes = kinds_by named n.inputs; gives = kinds_by named n.outputs }

-- the labels of one declaration, numbered from a number on
abbrev pub places_among : ℕ → ℕ → List Name → List Label
places_among i k [] = []
places_among i k (x ∷ xs) = record { declaration = i; number = k } ∷ places_among i (k + 1) xs

-- the labels of declarations numbered from a number on
abbrev pub places_from : ℕ → List TypeDecl → List Label
places_from i [] = []
places_from i (d ∷ ds) = places_among i 0 (labels_of d) ++ places_from (i + 1) ds
